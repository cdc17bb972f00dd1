use Prim.Native.Nat.{◌+◌, ◌-◌}
use mathlib.Core.Path.{refl, sym, ◌∙◌}
use native.Mathlib.Omega.{arith}
use Prim.Native.Nat.{◌*◌}
use mathlib.Core.List.{◌++◌}
use lib.ListN.{length}
use borrow.Author.Tests.{leb-true}
use Rattle.dictionary_numbers.proofs.Numbering.{number_most, number_least}
use Rattle.dictionary_names.proofs.Naming.{has-kind, kind_most, last_ends, last_within, named-numbers, named-room, named_new}
use Rattle.dictionary_names.proofs.name_new.Goals as goal

-- src/lib.rt:126:9
pub returns-then-number-eq-NUMBERS : goal.returns-then-number-eq-NUMBERS
returns-then-number-eq-NUMBERS c = λ count ds es t L H A. named-numbers c.args.slots.now c.args.dictionary.now c.args.first count c.args.f ds es L t c.args.slot A c.kind_of-kind.result c.number_of-number.result (c.kind_of-kind.ensures t H) (kind_most c.args.line.now c.args.from c.args.to t H) c.number_of-number.ensures c.if-number-eq-NUMBERS.true

-- src/lib.rt:128:9
pub has_room-requires : goal.has_room-requires
has_room-requires c = last_within c.args.slots.now c.args.dictionary.now c.args.first c.requires.count c.args.f c.requires.before c.requires.entries c.requires.last

-- src/lib.rt:129:9
pub returns-then-not-has_room : goal.returns-then-not-has_room
returns-then-not-has_room c = λ count ds es t L H A. named-room c.args.slots.now c.args.dictionary.now c.args.first count c.args.f ds es L t c.args.slot A c.text_length.result (c.text_length.ensures.value t H) (sym c.has_room.ensures ∙ c.if-not-has_room.true)

-- src/lib.rt:131:16
pub overflow_mul-term : goal.overflow_mul-term
overflow_mul-term c = omega (arith, c.kind_of-kind.ensures c.requires.text c.requires.has, kind_most c.args.line.now c.args.from c.args.to c.requires.text c.requires.has)

-- src/lib.rt:131:16
pub overflow_add-term : goal.overflow_add-term
overflow_add-term c = omega (arith, c.kind_of-kind.ensures c.requires.text c.requires.has, kind_most c.args.line.now c.args.from c.args.to c.requires.text c.requires.has, number_most c.args.dictionary.now c.args.f (c.requires.before ++ c.requires.entries) c.requires.last.filled c.kind_of-kind.result (omega (arith, c.kind_of-kind.ensures c.requires.text c.requires.has, kind_most c.args.line.now c.args.from c.args.to c.requires.text c.requires.has)), c.number_of-number.ensures)

-- src/lib.rt:132:9
pub write_entry-end-requires : goal.write_entry-end-requires
write_entry-end-requires c = record { term_nonzero = omega (arith, number_least c.args.dictionary.now c.args.f (c.requires.before ++ c.requires.entries) c.requires.last.filled c.kind_of-kind.result (omega (arith, c.kind_of-kind.ensures c.requires.text c.requires.has, kind_most c.args.line.now c.args.from c.args.to c.requires.text c.requires.has)), c.number_of-number.ensures); has_room = record { text = c.requires.text; has = c.requires.has; room = omega (arith, leb-true (c.args.f.end + 12 + c.text_length.result) (length c.args.dictionary.now) (sym c.has_room.ensures ∙ c.if-not-has_room.false), c.text_length.ensures.value c.requires.text c.requires.has) } }

-- src/lib.rt:133:20
pub overflow_sub-slots : goal.overflow_sub-slots
overflow_sub-slots c = omega (arith, last_ends c.args.slots.now c.args.dictionary.now c.args.first c.requires.count c.args.f c.requires.before c.requires.entries c.requires.last)

-- src/lib.rt:133:5
pub bounds-slots-slot : goal.bounds-slots-slot
bounds-slots-slot c = c.requires.free.within

-- src/lib.rt:134:22
pub filled_on-requires : goal.filled_on-requires
filled_on-requires c = omega (arith, number_most c.args.dictionary.now c.args.f (c.requires.before ++ c.requires.entries) c.requires.last.filled c.kind_of-kind.result (omega (arith, c.kind_of-kind.ensures c.requires.text c.requires.has, kind_most c.args.line.now c.args.from c.args.to c.requires.text c.requires.has)), c.number_of-number.ensures, c.if-number-eq-NUMBERS.false)

-- src/lib.rt:110:1
pub returns : goal.returns
returns c = λ count ds es t L H A. named_new c.args.slots.now c.args.dictionary.now c.args.first count c.args.f ds es L t c.write_entry-end.new.dictionary c.args.slot c.write_entry-end.result c.kind_of-kind.result c.number_of-number.result (c.kind_of-kind.result * 1073741824 + c.number_of-number.result) c.filled_on.result A (has-kind c.args.line.now c.args.from c.args.to t H) (c.kind_of-kind.ensures t H) c.number_of-number.ensures (omega (arith, number_most c.args.dictionary.now c.args.f (c.requires.before ++ c.requires.entries) c.requires.last.filled c.kind_of-kind.result (omega (arith, c.kind_of-kind.ensures c.requires.text c.requires.has, kind_most c.args.line.now c.args.from c.args.to c.requires.text c.requires.has)), c.number_of-number.ensures, c.if-number-eq-NUMBERS.false)) refl (c.write_entry-end.ensures (ds ++ es) t L.filled.holds H) c.write_entry-end.auto.dictionary c.filled_on.ensures
