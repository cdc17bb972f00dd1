use native.Mathlib.Omega.{arith}
use Rattle.std.specs.declared.cmp.Ordering.{Ordering}
use Rattle.std.specs.declared.cmp.Ordering.TheVariants.{Equal, Greater}
use Rattle.table_find.proofs.Place.{ordering_says}
use Rattle.update_lower.proofs.LowerPass.{lowering-start, lowering-lower, lowering-higher, lowering-stays, lowering-goes, lowering-done, lowering-out}
use Rattle.update_lower.proofs.lower_rows.Goals as goal

pub loop-j-init : goal.loop-j-init
loop-j-init c = lowering-start _ _ _ _ c.requires.lowerable _ c.requires.passed

pub returns-then-n-i : goal.returns-then-n-i
returns-then-n-i c = lowering-out _ _ _ _ c.requires.lowerable c.loop-j.invariant (omega (arith, c.if-n-i.true, c.requires.lowerable.tables.laid.counted))

pub loop-j-smaller-in-Less : goal.loop-j-smaller-in-Less
loop-j-smaller-in-Less c = omega (arith, c.loop-j-test.true, c.if-n-i.false, c.requires.lowerable.tables.laid.counted)

pub loop-j-preserved-in-Less : goal.loop-j-preserved-in-Less
loop-j-preserved-in-Less c = lowering-lower _ _ _ _ c.requires.lowerable c.loop-j.invariant (omega (arith, c.if-n-i.false, c.requires.lowerable.tables.laid.counted)) c.loop-j-test.true c.row_from-x.ensures (ordering_says _ _ Ordering.Less c.in-Less.ensures) c.row_at-row.ensures c.put_entry.ensures

pub loop-j-preserved-in-Greater : goal.loop-j-preserved-in-Greater
loop-j-preserved-in-Greater c = lowering-higher _ _ _ _ c.requires.lowerable c.loop-j.invariant (omega (arith, c.if-n-i.false, c.requires.lowerable.tables.laid.counted)) c.loop-j-test.true c.row_from-x.ensures (ordering_says _ _ Greater c.in-Greater.ensures)

pub loop-j-preserved-then-support-gt1 : goal.loop-j-preserved-then-support-gt1
loop-j-preserved-then-support-gt1 c = lowering-stays _ _ _ _ c.requires.lowerable c.loop-j.invariant (omega (arith, c.if-n-i.false, c.requires.lowerable.tables.laid.counted)) c.loop-j-test.true c.row_from-x.ensures (ordering_says _ _ Equal c.in-Equal.ensures) c.if-support-gt1.true c.put_entry-then-support-gt1.ensures

pub loop-j-preserved : goal.loop-j-preserved
loop-j-preserved c = lowering-goes _ _ _ _ c.requires.lowerable c.loop-j.invariant (omega (arith, c.if-n-i.false, c.requires.lowerable.tables.laid.counted)) c.loop-j-test.true c.row_from-x.ensures (ordering_says _ _ Equal c.in-Equal.ensures) c.if-support-gt1.false

pub returns : goal.returns
returns c = lowering-done _ _ _ _ c.requires.lowerable c.loop-j.invariant c.loop-j-test.false
