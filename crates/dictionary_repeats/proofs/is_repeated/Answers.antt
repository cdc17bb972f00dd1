use Rattle.dictionary_index.proofs.Indexing.{search-entry}
use Rattle.dictionary_repeats.proofs.Repeating.{found_repeats, free_none, past_none}
use Rattle.dictionary_repeats.proofs.is_repeated.Goals as goal

-- src/lib.rt:31:1
pub returns-in-Found : goal.returns-in-Found
returns-in-Found c = λ k X. found_repeats c.args.slots.now c.args.dictionary.now c.args.first k c.args.at X _ (search-entry c.args.slots.now c.args.dictionary.now c.args.first c.args.at c.length_at-n.result c.hash_from.result c.slot_of-home.result c.find_text.result _ c.in-Found.is c.length_at-n.ensures c.hash_from.ensures.value c.slot_of-home.ensures c.find_text.ensures)

-- src/lib.rt:31:1
pub returns-in-Free : goal.returns-in-Free
returns-in-Free c = λ k X. free_none c.args.slots.now c.args.dictionary.now c.args.first k c.args.at X _ (search-entry c.args.slots.now c.args.dictionary.now c.args.first c.args.at c.length_at-n.result c.hash_from.result c.slot_of-home.result c.find_text.result _ c.in-Free.is c.length_at-n.ensures c.hash_from.ensures.value c.slot_of-home.ensures c.find_text.ensures)

-- src/lib.rt:31:1
pub returns-in-Past : goal.returns-in-Past
returns-in-Past c = λ k X. past_none c.args.slots.now c.args.dictionary.now c.args.first k c.args.at X (search-entry c.args.slots.now c.args.dictionary.now c.args.first c.args.at c.length_at-n.result c.hash_from.result c.slot_of-home.result c.find_text.result _ c.in-Past.is c.length_at-n.ensures c.hash_from.ensures.value c.slot_of-home.ensures c.find_text.ensures)
