-- What a reading promises (document 02, slip 1), in words that its theorems use. Definitions only.
use Rattle.std.specs.Prelude.{ℕ, ◌+◌, ◌-◌, ◌*◌, ◌≤◌, ◌<◌, min, ◌≡◌, true, false, List, [], ◌++◌, map, length, take, drop, replicate}
use Rattle.spec.specs.declared.Triple.{Triple}
use Rattle.spec.specs.Terms.{is_triple, is_statement}
use Rattle.spec.specs.Lists.{all, select}
use Rattle.spec.specs.Refusals.{first_refusal}
use Rattle.spec.specs.Deliveries.{is_fact, message_checks}
use Rattle.spec.specs.Messages.{most_bytes}
use Rattle.spec.specs.computed.Decoded.{read}
use Rattle.spec_ntriples.specs.Texts.{TextTriple}
use Rattle.spec_ntriples.specs.computed.Lines.{refused, triples, document}
use Rattle.spec_ntriples.specs.Dictionary.{Entry, bytes_of_entries, entries, are_numbers_enough, are_numbered, is_dictionary}
use Rattle.spec_ntriples.specs.Reading.{with_all}
use Rattle.spec_ntriples.specs.Sights.{triple_texts, file_texts, first_sights, known_texts, word_texts}

-- ---- refusals

-- The entries of a dictionary with the texts of some triples.
abbrev pub entries_with : List ℕ → List TextTriple → List Entry
entries_with dictionary ts = with_all (entries dictionary) ts

-- Why a reading is refused, and by which number: the first "no" of 1, 13, 14 and 15.
pub data RefusedBy (dictionary file : List ℕ) (len n : ℕ) : Type 0 where
  no_dictionary : n ≡ 1 → is_dictionary dictionary ≡ false → RefusedBy dictionary file len n
  wrong_line : n ≡ 13 → is_dictionary dictionary ≡ true → document file ≡ refused → RefusedBy dictionary file len n
  no_space
      : n ≡ 14 → is_dictionary dictionary ≡ true → (ts : List TextTriple) → document file ≡ triples ts
      → length dictionary < length (bytes_of_entries (entries_with dictionary ts)) → RefusedBy dictionary file len n
  no_number
      : n ≡ 14 → is_dictionary dictionary ≡ true → (ts : List TextTriple) → document file ≡ triples ts → are_numbers_enough (entries_with dictionary ts) ≡ false
      → RefusedBy dictionary file len n
  no_room
      : n ≡ 15 → is_dictionary dictionary ≡ true → (ts : List TextTriple) → document file ≡ triples ts
      → length (bytes_of_entries (entries_with dictionary ts)) ≤ length dictionary → are_numbers_enough (entries_with dictionary ts) ≡ true
      → min len most_bytes < 10 + 12 * length ts → RefusedBy dictionary file len n

-- That a file is accepted, and its delivery has n bytes.
pub record Accepted (dictionary file : List ℕ) (len n : ℕ) : Type 0 where
  pub lines : List TextTriple
  pub formed : is_dictionary dictionary ≡ true
  pub said : document file ≡ triples lines
  pub space : length (bytes_of_entries (entries_with dictionary lines)) ≤ length dictionary
  pub numbers : are_numbers_enough (entries_with dictionary lines) ≡ true
  pub room : 10 + 12 * length lines ≤ min len most_bytes
  pub size : n ≡ 10 + 12 * length lines

-- ---- the dictionary after a reading

-- "Gives each new text the next number of its kind in order of first sight": the dictionary after it is one, as long as it was; its entries
-- are the old ones and those of the new texts of the file, each once, where it comes first, with the next term of its kind.
pub record Entered (dictionary after : List ℕ) (ts : List TextTriple) : Type 0 where
  pub formed : is_dictionary after ≡ true
  pub as_long : length after ≡ length dictionary
  pub added : List Entry
  pub entries_are : entries after ≡ entries dictionary ++ added
  pub texts : map (λ (e : Entry). e.text) added ≡ first_sights (known_texts (entries dictionary)) (file_texts ts)
  pub numbers : are_numbered (entries dictionary) added ≡ true

-- ---- the delivery

-- "A delivery of additions, one for each triple line, statements and facts each in file order, without extra fields": the triples of the
-- lines, each word's text that of its line; the n bytes pass 9, 10 and 11 and say them; zeros follow.
pub record Delivers (after delivery : List ℕ) (len n : ℕ) (ts : List TextTriple) : Type 0 where
  pub added : List Triple
  pub count : length added ≡ length ts
  pub texts : map (word_texts (entries after)) added ≡ map triple_texts ts
  pub are_triples : all is_triple added ≡ true
  pub passes : first_refusal (message_checks (take n delivery)) ≡ 0
  pub no_statements_withdrawn : (read (take n delivery)).statements_withdrawn ≡ []
  pub no_facts_withdrawn : (read (take n delivery)).facts_withdrawn ≡ []
  pub statements_added : (read (take n delivery)).statements_added ≡ select is_statement added
  pub facts_added : (read (take n delivery)).facts_added ≡ select is_fact added
  pub no_fields : (read (take n delivery)).fields ≡ []
  pub zeros : drop n delivery ≡ replicate (len - n) 0
  pub as_long : length delivery ≡ len
