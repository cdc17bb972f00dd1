use mathlib.Core.Path.{refl}
use native.Mathlib.Omega.{arith}
use lib.ListN.{length-set}
use Rattle.dictionary_bytes.specs.inside.Entries.{text_at}
use Rattle.dictionary_hash.specs.inside.Hashes.{home_of}
use Rattle.dictionary_index.specs.inside.Index.{FreeAt}
use Rattle.dictionary_index.specs.declared.Search.TheVariants.{Found, Free, Past}
use Rattle.dictionary_index.proofs.Indexing.{index-within, first_before, search-entry, enter_known, enter_full, enter_free}
use Rattle.dictionary_index.proofs.enter.Goals as goal

-- src/lib.rt:70:11
pub find_text-requires : goal.find_text-requires
find_text-requires c = record { lead_within = index-within c.args.slots.now c.args.dictionary.now c.args.first c.requires.count c.requires.index; n_in_bounds = omega arith }

-- src/lib.rt:74:25
pub overflow_sub-slots : goal.overflow_sub-slots
overflow_sub-slots c = omega (arith, first_before c.args.dictionary.now c.args.first c.requires.count, c.requires.place)

-- src/lib.rt:74:13
pub offset_bounds-slots-s : goal.offset_bounds-slots-s
offset_bounds-slots-s c = let F : FreeAt c.args.slots.now c.args.dictionary.now c.args.first (text_at c.args.dictionary.now c.args.at) (home_of (text_at c.args.dictionary.now c.args.at)) c.in-Free.s = (search-entry c.args.slots.now c.args.dictionary.now c.args.first c.args.at c.length_at-n.result c.hash_from.result c.slot_of-home.result c.find_text.result (Free c.in-Free.s) c.in-Free.is c.length_at-n.ensures c.hash_from.ensures.value c.slot_of-home.ensures c.find_text.ensures) in omega (arith, F.within)

-- src/lib.rt:74:13
pub bounds-slots-s : goal.bounds-slots-s
bounds-slots-s c = (search-entry c.args.slots.now c.args.dictionary.now c.args.first c.args.at c.length_at-n.result c.hash_from.result c.slot_of-home.result c.find_text.result (Free c.in-Free.s) c.in-Free.is c.length_at-n.ensures c.hash_from.ensures.value c.slot_of-home.ensures c.find_text.ensures).within

-- src/lib.rt:62:1
pub returns-in-Found : goal.returns-in-Found
returns-in-Found c = record { same_length = refl; entered = λ k X e. enter_known c.args.slots.now c.args.dictionary.now c.args.first k c.args.at X e c.in-Found.other (search-entry c.args.slots.now c.args.dictionary.now c.args.first c.args.at c.length_at-n.result c.hash_from.result c.slot_of-home.result c.find_text.result (Found c.in-Found.other) c.in-Found.is c.length_at-n.ensures c.hash_from.ensures.value c.slot_of-home.ensures c.find_text.ensures) }

-- src/lib.rt:62:1
pub returns-in-Past : goal.returns-in-Past
returns-in-Past c = record { same_length = refl; entered = λ k X e. enter_full c.args.slots.now c.args.dictionary.now c.args.first k c.args.at X e (search-entry c.args.slots.now c.args.dictionary.now c.args.first c.args.at c.length_at-n.result c.hash_from.result c.slot_of-home.result c.find_text.result (Past) c.in-Past.is c.length_at-n.ensures c.hash_from.ensures.value c.slot_of-home.ensures c.find_text.ensures) }

-- src/lib.rt:62:1
pub returns-in-Free : goal.returns-in-Free
returns-in-Free c = record { same_length = simp length-set; entered = λ k X e. enter_free c.args.slots.now c.args.dictionary.now c.args.first k c.args.at X e c.in-Free.s c.requires.within (search-entry c.args.slots.now c.args.dictionary.now c.args.first c.args.at c.length_at-n.result c.hash_from.result c.slot_of-home.result c.find_text.result (Free c.in-Free.s) c.in-Free.is c.length_at-n.ensures c.hash_from.ensures.value c.slot_of-home.ensures c.find_text.ensures) }
