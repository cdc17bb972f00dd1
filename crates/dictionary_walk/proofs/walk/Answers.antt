use Rattle.dictionary_step.proofs.Asking.{walk-less}
use Rattle.dictionary_step.proofs.Steps.{filling_none}
use Rattle.dictionary_walk.proofs.walk.Goals as goal

-- src/lib.rt:120:5
pub loop-f-init : goal.loop-f-init
loop-f-init c = filling_none c.args.dictionary.now

-- src/lib.rt:120:11
pub is_entry-requires : goal.is_entry-requires
is_entry-requires c = c.loop-f.invariant.within

-- src/lib.rt:121:15
pub next_entry-requires : goal.next_entry-requires
next_entry-requires c = record { filling = c.loop-f.invariant; comes = rw c.loop-f-test.true at c.is_entry.ensures }

-- src/lib.rt:123:17
pub returns-in_err-f : goal.returns-in_err-f
returns-in_err-f c = rw c.from_residual.ensures c.in_err-f.ensures

-- src/lib.rt:120:5
pub loop-f-smaller : goal.loop-f-smaller
loop-f-smaller c = walk-less c.args.dictionary.now c.loop-f.f _ (rw c.in_ok-f.was at c.next_entry.ensures)

-- src/lib.rt:120:5
pub loop-f-preserved : goal.loop-f-preserved
loop-f-preserved c = (rw c.in_ok-f.was at c.next_entry.ensures).0

-- src/lib.rt:111:1
pub returns : goal.returns
returns c = record { filling = c.loop-f.invariant; none = rw c.loop-f-test.false at c.is_entry.ensures }
