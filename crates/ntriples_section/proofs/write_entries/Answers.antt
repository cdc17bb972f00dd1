use native.Mathlib.Omega.{arith}
use mathlib.Core.Path.{◌≡◌, sym, ◌∙◌, ap}
use Prim.Native.Nat.{ℕ, ◌*◌}
use mathlib.Core.Bool.{true, false}
use lib.ListN.{length}
use lib.Seq.{sets, length-sets}
use Rattle.spec.specs.declared.Triple.{Triple}
use Rattle.spec.specs.Tables.{triple_from}
use Rattle.spec.specs.Messages.{entry_bytes, entries_bytes}
use Rattle.ntriples_section.specs.inside.Sections.{chosen}
use Rattle.ntriples_section.proofs.Writing.{chosen_one, chosen_none, tested, chosen_room, wrote_none, wrote-more, wrote_same}
use Rattle.ntriples_section.proofs.write_entries.Goals as goal
use Rattle.ntriples_section.proofs.write_entries.Goals.{then-is_statement-statements, else-is_statement-statements}

pub loop-i-init : goal.loop-i-init
loop-i-init c = wrote_none c.args.statements c.args.terms.now c.args.out.now c.args.at

pub write_entry-requires : goal.write_entry-requires
write_entry-requires c = omega (arith, chosen_room c.args.statements c.args.terms.now c.loop-i.i c.args.n c.loop-i-test.true (tested c.args.statements c.row_from-t.result (triple_from c.args.terms.now (c.loop-i.i * 3)) c.is_statement.result true c.is_statement.ensures c.row_from-t.ensures c.if-is_statement-statements.true), c.requires.terms_in_bounds, c.loop-i.invariant.behind, ap length c.loop-i.invariant.written ∙ length-sets c.args.out.now c.args.at (entries_bytes (chosen c.args.statements c.loop-i.i c.args.terms.now)))

pub overflow_add-place : goal.overflow_add-place
overflow_add-place c = omega (arith, chosen_room c.args.statements c.args.terms.now c.loop-i.i c.args.n c.loop-i-test.true (tested c.args.statements c.row_from-t.result (triple_from c.args.terms.now (c.loop-i.i * 3)) c.is_statement.result true c.is_statement.ensures c.row_from-t.ensures c.if-is_statement-statements.true), c.requires.terms_in_bounds, c.loop-i.invariant.behind, ap length c.loop-i.invariant.written ∙ length-sets c.args.out.now c.args.at (entries_bytes (chosen c.args.statements c.loop-i.i c.args.terms.now)), c.requires)

pub loop-i-preserved : goal.loop-i-preserved
loop-i-preserved c =
    elim c.if-is_statement-statements.branch [
      | then-is_statement-statements w ↦ rw (w.out-is, w.place-is) (wrote_same c.args.out.now c.args.at _ _ _ _ (chosen_one c.args.statements c.loop-i.i c.args.terms.now (tested c.args.statements c.row_from-t.result (triple_from c.args.terms.now (c.loop-i.i * 3)) c.is_statement.result true c.is_statement.ensures c.row_from-t.ensures w.if-is_statement-statements.true)) (wrote-more c.args.out.now c.args.at (chosen c.args.statements c.loop-i.i c.args.terms.now) c.loop-i.out c.loop-i.place c.loop-i.invariant (triple_from c.args.terms.now (c.loop-i.i * 3)) w.write_entry.new.out (w.write_entry.ensures ∙ ap (λ (t : Triple). sets c.loop-i.out c.loop-i.place (entry_bytes t)) c.row_from-t.ensures)))
      | else-is_statement-statements w ↦ rw (w.out-is, w.place-is) (wrote_same c.args.out.now c.args.at _ _ _ _ (chosen_none c.args.statements c.loop-i.i c.args.terms.now (tested c.args.statements c.row_from-t.result (triple_from c.args.terms.now (c.loop-i.i * 3)) c.is_statement.result false c.is_statement.ensures c.row_from-t.ensures w.if-is_statement-statements.false)) c.loop-i.invariant)
    ]

pub shape_of-out : goal.shape_of-out
shape_of-out c = ap length c.loop-i.invariant.written ∙ length-sets c.args.out.now c.args.at (entries_bytes (chosen c.args.statements c.loop-i.i c.args.terms.now))

pub returns : goal.returns
returns c = let e : c.loop-i.i ≡ c.args.n = omega arith in let W = wrote_same c.args.out.now c.args.at _ _ _ _ (ap (λ (k : ℕ). chosen c.args.statements k c.args.terms.now) (sym e)) c.loop-i.invariant in
    record { out_after = W.written; value = W.behind }
