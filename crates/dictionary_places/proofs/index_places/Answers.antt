use native.Mathlib.Omega.{arith}
use Prim.Native.Nat.{◌-◌}
use Rattle.dictionary_places.proofs.Keeping.{keeping_none, keeping-within, keeping-number, keeping-more, keeping_all}
use borrow.Author.Rules.{rules}
use Rattle.dictionary_places.proofs.index_places.Goals as goal

-- src/lib.rt:41:5
pub loop-at-init : goal.loop-at-init
loop-at-init c = keeping_none c.args.dictionary.now c.args.f c.args.places.now c.requires.places_len

-- src/lib.rt:42:20
pub overflow_add-next : goal.overflow_add-next
overflow_add-next c = omega (arith, keeping-within c.args.dictionary.now c.args.f c.requires.dictionary_value c.requires.filled_by c.loop-at.places c.loop-at.at c.loop-at.invariant c.loop-at-test.true)

-- src/lib.rt:42:34
pub length_at-requires : goal.length_at-requires
length_at-requires c = omega (arith, keeping-within c.args.dictionary.now c.args.f c.requires.dictionary_value c.requires.filled_by c.loop-at.places c.loop-at.at c.loop-at.invariant c.loop-at-test.true)

-- src/lib.rt:42:20
pub overflow_add-next-in-loop-at : goal.overflow_add-next-in-loop-at
overflow_add-next-in-loop-at c = omega (arith, keeping-within c.args.dictionary.now c.args.f c.requires.dictionary_value c.requires.filled_by c.loop-at.places c.loop-at.at c.loop-at.invariant c.loop-at-test.true, c.length_at.ensures)

-- src/lib.rt:43:31
pub term_at-requires : goal.term_at-requires
term_at-requires c = omega (arith, keeping-within c.args.dictionary.now c.args.f c.requires.dictionary_value c.requires.filled_by c.loop-at.places c.loop-at.at c.loop-at.invariant c.loop-at-test.true)

-- src/lib.rt:43:9
pub keep_place-requires : goal.keep_place-requires
keep_place-requires c = record { has_number = keeping-number c.args.dictionary.now c.args.f c.requires.dictionary_value c.requires.filled_by c.loop-at.places c.loop-at.at c.loop-at.invariant c.loop-at-test.true c.term_at.result c.term_at.ensures; places_len = c.loop-at.invariant.long }

-- src/lib.rt:41:5
pub loop-at-smaller : goal.loop-at-smaller
loop-at-smaller c = omega (arith, c.loop-at-test.true)

-- src/lib.rt:41:5
pub loop-at-preserved : goal.loop-at-preserved
loop-at-preserved c = keeping-more c.args.dictionary.now c.args.f c.requires.dictionary_value c.requires.filled_by c.loop-at.places c.loop-at.at c.loop-at.invariant c.loop-at-test.true c.term_at.result c.length_at.result c.term_at.ensures c.length_at.ensures c.keep_place.new.places c.keep_place.ensures

-- src/lib.rt:34:1
pub returns : goal.returns
returns c = keeping_all c.args.dictionary.now c.args.f c.requires.dictionary_value c.requires.filled_by c.loop-at.places c.loop-at.at c.loop-at.invariant (search rules)
