use native.Mathlib.Omega.{arith}
use Rattle.dictionary_index.proofs.Indexing.{entry-within, first_before}
use Rattle.dictionary_index.proofs.Segments.{segment_none, segment-next, segment-more, segment-known, segment-full, segment_end, segment_limit, count_below}
use borrow.Author.Rules.{rules}
use Rattle.dictionary_index.proofs.index_segment.Goals as goal

-- src/lib.rt:142:5
pub loop-at-init : goal.loop-at-init
loop-at-init c = segment_none c.args.slots.now c.args.dictionary.now c.args.first c.args.last c.requires.are_zero c.requires.are_entries

-- src/lib.rt:143:50
pub overflow_sub-at : goal.overflow_sub-at
overflow_sub-at c = omega (arith, first_before c.args.dictionary.now c.args.first c.loop-at.count, c.loop-at.invariant.place)

-- src/lib.rt:146:15
pub enter-requires : goal.enter-requires
enter-requires c = segment-next c.args.slots.now c.loop-at.slots c.args.dictionary.now c.args.first c.args.last c.loop-at.at c.loop-at.count c.requires.are_entries c.loop-at.invariant (search rules) c.if-count-at.false

-- src/lib.rt:148:22
pub overflow_add-at : goal.overflow_add-at
overflow_add-at c = omega (arith, entry-within c.args.dictionary.now c.args.first c.args.last c.requires.are_entries c.loop-at.count c.loop-at.at c.loop-at.invariant.place (search rules), c.requires.are_entries.within)

-- src/lib.rt:148:36
pub length_at-requires : goal.length_at-requires
length_at-requires c = omega (arith, entry-within c.args.dictionary.now c.args.first c.args.last c.requires.are_entries c.loop-at.count c.loop-at.at c.loop-at.invariant.place (search rules), c.requires.are_entries.within)

-- src/lib.rt:148:22
pub overflow_add-at-in-New : goal.overflow_add-at-in-New
overflow_add-at-in-New c = omega (arith, entry-within c.args.dictionary.now c.args.first c.args.last c.requires.are_entries c.loop-at.count c.loop-at.at c.loop-at.invariant.place (search rules), c.requires.are_entries.within, c.length_at.ensures)

-- src/lib.rt:149:17
pub overflow_add-count : goal.overflow_add-count
overflow_add-count c = omega (arith, count_below c.args.dictionary.now c.args.first c.loop-at.count, c.loop-at.invariant.place)

-- src/lib.rt:142:5
pub loop-at-smaller : goal.loop-at-smaller
loop-at-smaller c = omega (arith, c.length_at.ensures)

-- src/lib.rt:142:5
pub loop-at-preserved : goal.loop-at-preserved
loop-at-preserved c = rw c.length_at.ensures (segment-more c.args.slots.now c.loop-at.slots c.args.dictionary.now c.args.first c.args.last c.loop-at.at c.loop-at.count c.requires.are_entries c.loop-at.invariant c.enter.new.slots c.enter.ensures.same_length (search rules) (rw c.in-New.is at (c.enter.ensures.entered c.loop-at.count c.loop-at.invariant.index c.loop-at.invariant.place)))

-- src/lib.rt:152:17
pub returns-in-Known : goal.returns-in-Known
returns-in-Known c = segment-known c.args.slots.now c.loop-at.slots c.args.dictionary.now c.args.first c.args.last c.loop-at.at c.loop-at.count c.requires.are_entries c.loop-at.invariant c.enter.new.slots c.enter.ensures.same_length (search rules) _ (rw c.in-Known.is at (c.enter.ensures.entered c.loop-at.count c.loop-at.invariant.index c.loop-at.invariant.place))

-- src/lib.rt:134:1
pub returns-after-loop-at : goal.returns-after-loop-at
returns-after-loop-at c = segment_end c.args.slots.now c.loop-at.slots c.args.dictionary.now c.args.first c.args.last c.loop-at.at c.loop-at.count c.requires.are_entries c.loop-at.invariant (search rules)

-- src/lib.rt:134:1
pub returns-then-count-at : goal.returns-then-count-at
returns-then-count-at c = segment_limit c.args.slots.now c.loop-at.slots c.args.dictionary.now c.args.first c.args.last c.loop-at.at c.loop-at.count c.requires.are_entries c.loop-at.invariant c.if-count-at.true

-- src/lib.rt:134:1
pub returns-in-Full : goal.returns-in-Full
returns-in-Full c = segment-full c.args.slots.now c.loop-at.slots c.args.dictionary.now c.args.first c.args.last c.loop-at.at c.loop-at.count c.requires.are_entries c.loop-at.invariant c.enter.new.slots c.enter.ensures.same_length (search rules) c.requires.in_bounds (rw c.in-Full.is at (c.enter.ensures.entered c.loop-at.count c.loop-at.invariant.index c.loop-at.invariant.place))
