use Prim.Native.Nat.{◌-◌}
use mathlib.Core.Path.{sym, ◌∙◌}
use Rattle.dictionary_hash.specs.inside.Hashes.{home_of}
use Rattle.dictionary_index.specs.declared.Search.TheVariants.{Found, Free, Past}
use Rattle.dictionary_search.proofs.Finding.{found_within, search_ends, found_term, free_none, past_none}
use Rattle.dictionary_search.proofs.find_term.Goals as goal

-- src/lib.rt:65:30
pub term_at-requires : goal.term_at-requires
term_at-requires c = found_within c.args.slots.now c.args.dictionary.now c.args.first c.requires.token.text.bytes (home_of c.requires.token.text.bytes) c.in-Found.at c.requires.lead_within (search_ends c.args.slots.now c.args.dictionary.now c.args.first c.requires.token.text.bytes (home_of c.requires.token.text.bytes) c.search_index.result (Found c.in-Found.at) c.in-Found.is (c.search_index.ensures c.requires.token.text c.requires.token.has))

-- src/lib.rt:52:1
pub returns-in-Found : goal.returns-in-Found
returns-in-Found c = λ es t X H. c.term_at.ensures ∙ found_term c.args.slots.now c.args.dictionary.now c.args.first es X t.bytes (home_of t.bytes) c.in-Found.at (search_ends c.args.slots.now c.args.dictionary.now c.args.first t.bytes (home_of t.bytes) c.search_index.result (Found c.in-Found.at) c.in-Found.is (c.search_index.ensures t H))

-- src/lib.rt:52:1
pub returns-in-Free : goal.returns-in-Free
returns-in-Free c = λ es t X H. sym (free_none c.args.slots.now c.args.dictionary.now c.args.first es X t.bytes c.in-Free.field-0 (search_ends c.args.slots.now c.args.dictionary.now c.args.first t.bytes (home_of t.bytes) c.search_index.result (Free c.in-Free.field-0) c.in-Free.is (c.search_index.ensures t H)))

-- src/lib.rt:52:1
pub returns-in-Past : goal.returns-in-Past
returns-in-Past c = λ es t X H. sym (past_none c.args.slots.now c.args.dictionary.now c.args.first es X t.bytes (search_ends c.args.slots.now c.args.dictionary.now c.args.first t.bytes (home_of t.bytes) c.search_index.result (Past) c.in-Past.is (c.search_index.ensures t H)))
