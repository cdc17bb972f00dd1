use Prim.Native.Nat.{◌-◌}
use native.Mathlib.Omega.{arith}
use Rattle.dictionary_repeats.proofs.Repeating.{passing_none, passing-all, passing-within, passing-more, passing-repeats}
use Rattle.dictionary_repeats.proofs.are_repeated.Goals as goal

-- src/lib.rt:53:5
pub loop-at-init : goal.loop-at-init
loop-at-init c = passing_none c.args.slots.now c.args.dictionary.now c.args.first c.args.from

-- src/lib.rt:54:12
pub is_repeated-requires : goal.is_repeated-requires
is_repeated-requires c = record { lead_within = c.requires.lead_within; at_in_bounds = omega (arith, (passing-within c.args.slots.now c.args.dictionary.now c.args.first c.args.from c.args.last c.loop-at.at c.loop-at.invariant c.requires.are_entries c.loop-at-test.true), c.requires.are_entries.within) }

-- src/lib.rt:55:13
pub returns-then-is_repeated : goal.returns-then-is_repeated
returns-then-is_repeated c = λ k X. passing-repeats c.args.slots.now c.args.dictionary.now c.args.first c.args.from c.args.last c.loop-at.at c.loop-at.invariant c.requires.are_entries c.loop-at-test.true k (rw c.if-is_repeated.true at (c.is_repeated.ensures k X))

-- src/lib.rt:57:14
pub overflow_add-at : goal.overflow_add-at
overflow_add-at c = omega (arith, (passing-within c.args.slots.now c.args.dictionary.now c.args.first c.args.from c.args.last c.loop-at.at c.loop-at.invariant c.requires.are_entries c.loop-at-test.true), c.requires.are_entries.within)

-- src/lib.rt:57:28
pub length_at-requires : goal.length_at-requires
length_at-requires c = omega (arith, (passing-within c.args.slots.now c.args.dictionary.now c.args.first c.args.from c.args.last c.loop-at.at c.loop-at.invariant c.requires.are_entries c.loop-at-test.true), c.requires.are_entries.within)

-- src/lib.rt:57:14
pub overflow_add-at-in-loop-at : goal.overflow_add-at-in-loop-at
overflow_add-at-in-loop-at c = omega (arith, (passing-within c.args.slots.now c.args.dictionary.now c.args.first c.args.from c.args.last c.loop-at.at c.loop-at.invariant c.requires.are_entries c.loop-at-test.true), c.requires.are_entries.within, c.length_at.ensures)

-- src/lib.rt:53:5
pub loop-at-smaller : goal.loop-at-smaller
loop-at-smaller c = omega (arith, (passing-within c.args.slots.now c.args.dictionary.now c.args.first c.args.from c.args.last c.loop-at.at c.loop-at.invariant c.requires.are_entries c.loop-at-test.true), c.length_at.ensures)

-- src/lib.rt:53:5
pub loop-at-preserved : goal.loop-at-preserved
loop-at-preserved c = rw c.length_at.ensures (passing-more c.args.slots.now c.args.dictionary.now c.args.first c.args.from c.args.last c.loop-at.at c.loop-at.invariant c.requires.are_entries c.loop-at-test.true (λ k X. rw c.if-is_repeated.false at (c.is_repeated.ensures k X)))

-- src/lib.rt:47:1
pub returns : goal.returns
returns c = passing-all c.args.slots.now c.args.dictionary.now c.args.first c.args.from c.args.last c.loop-at.at c.loop-at.invariant c.loop-at-test.false
