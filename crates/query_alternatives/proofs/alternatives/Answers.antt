-- Each question refuses where the definition does; else all alternatives are gathered. Assumes nothing.
use Rattle.std.specs.Prelude.{Err}
use mathlib.Core.Path.{sym, ap, ◌∙◌}
use mathlib.Core.List.{List}
use Prim.Native.Nat.{ℕ}
use lib.ListN.{length}
use Rattle.spec.specs.Outputs.{replied}
use Rattle.output.proofs.Filled.{cleared}
use Rattle.query_alternatives.specs.inside.Putting.{give_alternatives}
use Rattle.query_alternatives.proofs.GatherLaws.{refused_1, refused_6, passed}
use Rattle.query_alternatives.proofs.alternatives.Goals as goal

pub returns-then-not-is_statement_table : goal.returns-then-not-is_statement_table
returns-then-not-is_statement_table c = ap (λ (ws : List ℕ). replied (Err 1) ws) c.clear.ensures ∙ refused_1 c.args.statements.now c.args.atom (length c.args.out.now) (sym c.is_statement_table.ensures ∙ c.if-not-is_statement_table.true)

pub returns-then-not-is_atom : goal.returns-then-not-is_atom
returns-then-not-is_atom c = ap (λ (ws : List ℕ). replied (Err 6) ws) c.clear.ensures ∙ refused_6 c.args.statements.now c.args.atom (length c.args.out.now) (sym c.is_statement_table.ensures ∙ c.if-not-is_statement_table.false) (sym c.is_atom.ensures ∙ c.if-not-is_atom.true)

pub gather-requires : goal.gather-requires
gather-requires c = (sym c.is_statement_table.ensures ∙ c.if-not-is_statement_table.false, cleared c.clear.new.out (length c.args.out.now) c.clear.ensures)

pub returns : goal.returns
returns c = c.gather.ensures ∙ ap (give_alternatives c.args.statements.now c.args.atom) c.clear.auto.out ∙ passed c.args.statements.now c.args.atom (length c.args.out.now) (sym c.is_statement_table.ensures ∙ c.if-not-is_statement_table.false) (sym c.is_atom.ensures ∙ c.if-not-is_atom.false)
