use native.Mathlib.Omega.{arith}
use Prim.Native.Nat.{◌-◌}
use Rattle.dictionary_places.proofs.Walking.{walk-number, walk_begins, walk-within, walk-on, walk_ends}
use Rattle.dictionary_places.proofs.place_of.Goals as goal

-- src/lib.rt:53:9
pub slot_for-s-requires : goal.slot_for-s-requires
slot_for-s-requires c = walk-number c.args.dictionary.now c.args.f c.args.places.now c.requires.are_places c.args.term c.requires.nonzero

-- src/lib.rt:55:5
pub loop-at-init : goal.loop-at-init
loop-at-init c = walk_begins c.args.dictionary.now c.args.f c.args.places.now c.requires.are_places c.args.term c.requires.nonzero c.slot_for-s.result c.slot_for-s.ensures.0

-- src/lib.rt:55:11
pub term_at-requires : goal.term_at-requires
term_at-requires c = omega (arith, walk-within c.args.dictionary.now c.args.f c.args.places.now c.requires.are_places c.args.term c.requires.nonzero c.loop-at.at c.loop-at.invariant)

-- src/lib.rt:56:14
pub overflow_add-at : goal.overflow_add-at
overflow_add-at c = omega (arith, walk-within c.args.dictionary.now c.args.f c.args.places.now c.requires.are_places c.args.term c.requires.nonzero c.loop-at.at c.loop-at.invariant)

-- src/lib.rt:56:28
pub length_at-requires : goal.length_at-requires
length_at-requires c = omega (arith, walk-within c.args.dictionary.now c.args.f c.args.places.now c.requires.are_places c.args.term c.requires.nonzero c.loop-at.at c.loop-at.invariant)

-- src/lib.rt:56:14
pub overflow_add-at-in-loop-at : goal.overflow_add-at-in-loop-at
overflow_add-at-in-loop-at c = omega (arith, walk-within c.args.dictionary.now c.args.f c.args.places.now c.requires.are_places c.args.term c.requires.nonzero c.loop-at.at c.loop-at.invariant, c.length_at.ensures)

-- src/lib.rt:55:5
pub loop-at-smaller : goal.loop-at-smaller
loop-at-smaller c = omega (arith, walk-within c.args.dictionary.now c.args.f c.args.places.now c.requires.are_places c.args.term c.requires.nonzero c.loop-at.at c.loop-at.invariant)

-- src/lib.rt:55:5
pub loop-at-preserved : goal.loop-at-preserved
loop-at-preserved c = walk-on c.args.dictionary.now c.args.f c.args.places.now c.requires.are_places c.args.term c.requires.nonzero c.loop-at.at c.loop-at.invariant c.term_at.result c.length_at.result c.term_at.ensures c.length_at.ensures (λ q. omega (arith, q, c.loop-at-test.true))

-- src/lib.rt:49:1
pub returns : goal.returns
returns c = (walk-within c.args.dictionary.now c.args.f c.args.places.now c.requires.are_places c.args.term c.requires.nonzero c.loop-at.at c.loop-at.invariant, walk_ends c.args.dictionary.now c.args.f c.args.places.now c.requires.are_places c.args.term c.requires.nonzero c.loop-at.at c.loop-at.invariant c.term_at.result c.term_at.ensures (omega (arith, c.loop-at-test.false)))
