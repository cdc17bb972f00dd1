use Rattle.dictionary_distinct.proofs.Apartness.{apart-less, compared_none, compared_repeat, compared_more, compared_all}
use Rattle.dictionary_distinct.proofs.are_distinct.Goals as goal

-- src/lib.rt:82:5
pub loop-first-init : goal.loop-first-init
loop-first-init c = compared_none c.args.dictionary.now c.args.last c.requires

-- src/lib.rt:83:15
pub next_segment-requires : goal.next_segment-requires
next_segment-requires c = record { are_entries = c.loop-first.invariant.behind; first_lt_last = c.loop-first-test.true }

-- src/lib.rt:85:17
pub returns-in_default : goal.returns-in_default
returns-in_default c = compared_repeat c.args.dictionary.now c.args.last c.loop-first.first c.loop-first.invariant c.in_default.ensures

-- src/lib.rt:82:5
pub loop-first-smaller : goal.loop-first-smaller
loop-first-smaller c = apart-less c.args.dictionary.now c.loop-first.first c.args.last _ (rw c.in-Some.is at c.next_segment.ensures)

-- src/lib.rt:82:5
pub loop-first-preserved : goal.loop-first-preserved
loop-first-preserved c = compared_more c.args.dictionary.now c.args.last c.loop-first.first c.loop-first.invariant _ (rw c.in-Some.is at c.next_segment.ensures)

-- src/lib.rt:77:1
pub returns : goal.returns
returns c = compared_all c.args.dictionary.now c.args.last c.loop-first.first c.loop-first.invariant c.loop-first-test.false
