use mathlib.Core.Path.{sym, ◌∙◌}
use native.Mathlib.Omega.{arith}
use Rattle.spec.specs.Terms.{is_allowed_fact}
use Rattle.table_zeros.proofs.Folds.{fold_end}
use Rattle.table_rows.proofs.Scan.{no_row, row_fold}
use Rattle.table_rows.proofs.are_facts_between.Goals as goal

pub loop-i-preserved : goal.loop-i-preserved
loop-i-preserved c = c.loop-i.invariant ∙ row_fold c.loop-i.ok is_allowed_fact c.args.t.now c.args.b c.loop-i.i c.row_at-x.ensures c.is_allowed_fact.ensures c.row_at.ensures c.is_less.ensures (omega arith) (omega arith)

pub returns : goal.returns
returns c = sym (c.loop-i.invariant ∙ fold_end c.loop-i.ok (no_row is_allowed_fact c.args.t.now c.args.b c.loop-i.i c.loop-i-test.false))
