use Prim.Native.Nat.{◌-◌}
use native.Mathlib.Omega.{arith}
use lib.ListN.{length}
use Rattle.dictionary_hash.specs.inside.Hashes.{home_of}
use Rattle.dictionary_index.specs.declared.Search.TheVariants.{Found, Free, Past}
use Rattle.dictionary_index.proofs.Indexing.{index-within}
use Rattle.dictionary_search.proofs.Finding.{found_within, search_ends}
use Rattle.dictionary_names.proofs.Naming.{last_ends, named-known, named_past, named-limit, can-add}
use Rattle.dictionary_names.proofs.name_text.Goals as goal

-- src/lib.rt:168:11
pub search_index-requires : goal.search_index-requires
search_index-requires c = record { lead_within = index-within c.args.slots.now c.args.dictionary.now c.args.first (length c.requires.entries) c.requires.last.index.index; token = record { text = c.requires.text; has = c.requires.has } }

-- src/lib.rt:169:43
pub term_at-requires : goal.term_at-requires
term_at-requires c = found_within c.args.slots.now c.args.dictionary.now c.args.first c.requires.text.bytes (home_of c.requires.text.bytes) c.in-Found.at (index-within c.args.slots.now c.args.dictionary.now c.args.first (length c.requires.entries) c.requires.last.index.index) (search_ends c.args.slots.now c.args.dictionary.now c.args.first c.requires.text.bytes (home_of c.requires.text.bytes) c.search_index.result (Found c.in-Found.at) c.in-Found.is (c.search_index.ensures c.requires.text c.requires.has))

-- src/lib.rt:172:54
pub overflow_sub-f : goal.overflow_sub-f
overflow_sub-f c = omega (arith, last_ends c.args.slots.now c.args.dictionary.now c.args.first c.args.count c.args.f c.requires.before c.requires.entries c.requires.last)

-- src/lib.rt:173:17
pub returns-then-count-f : goal.returns-then-count-f
returns-then-count-f c = λ ds es t L H. named-limit c.args.slots.now c.args.dictionary.now c.args.first c.args.count c.args.f ds es L t c.in-Free.slot (search_ends c.args.slots.now c.args.dictionary.now c.args.first t.bytes (home_of t.bytes) c.search_index.result (Free c.in-Free.slot) c.in-Free.is (c.search_index.ensures t H)) c.if-count-f.true

-- src/lib.rt:175:13
pub name_new-requires : goal.name_new-requires
name_new-requires c = can-add c.args.slots.now c.args.dictionary.now c.args.first c.args.count c.args.f c.requires.before c.requires.entries c.requires.last (c.requires.text) c.in-Free.slot c.args.line.now c.args.from c.args.to c.requires.has (search_ends c.args.slots.now c.args.dictionary.now c.args.first c.requires.text.bytes (home_of c.requires.text.bytes) c.search_index.result (Free c.in-Free.slot) c.in-Free.is (c.search_index.ensures c.requires.text c.requires.has)) c.if-count-f.false

-- src/lib.rt:155:1
pub returns-in-Found : goal.returns-in-Found
returns-in-Found c = λ ds es t L H. named-known c.args.slots.now c.args.dictionary.now c.args.first c.args.count c.args.f ds es L t (home_of t.bytes) c.in-Found.at c.term_at.result (search_ends c.args.slots.now c.args.dictionary.now c.args.first t.bytes (home_of t.bytes) c.search_index.result (Found c.in-Found.at) c.in-Found.is (c.search_index.ensures t H)) c.term_at.ensures

-- src/lib.rt:155:1
pub returns-in-Past : goal.returns-in-Past
returns-in-Past c = λ ds es t L H. named_past c.args.slots.now c.args.dictionary.now c.args.first c.args.count c.args.f ds es L t c.requires.enough (search_ends c.args.slots.now c.args.dictionary.now c.args.first t.bytes (home_of t.bytes) c.search_index.result (Past) c.in-Past.is (c.search_index.ensures t H))

-- src/lib.rt:155:1
pub returns-else-count-f : goal.returns-else-count-f
returns-else-count-f c = λ ds es t L H. c.name_new.ensures c.args.count ds es t L H (search_ends c.args.slots.now c.args.dictionary.now c.args.first t.bytes (home_of t.bytes) c.search_index.result (Free c.in-Free.slot) c.in-Free.is (c.search_index.ensures t H))
