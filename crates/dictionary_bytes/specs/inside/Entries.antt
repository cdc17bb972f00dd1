-- Entries of a dictionary by their byte indices. Definitions only.
use Rattle.std.specs.Prelude.{ℕ, zero, suc, ◌+◌, ◌≡◌, true, List, [], ◌∷◌, take, drop}
use Rattle.spec_ntriples.specs.Dictionary.{Entry, entry, front_term, front_length, next_number, are_numbers_enough}
use Rattle.spec_ntriples.specs.inside.Entries.{Holds}
use Rattle.dictionary_bytes.specs.declared.Filled.{Filled}

-- The length of the text of the entry that begins at a byte index.
unfoldable pub length_at : List ℕ → ℕ → ℕ
length_at bs at = front_length (drop at bs)

-- Its text.
unfoldable pub text_at : List ℕ → ℕ → List ℕ
text_at bs at = take (length_at bs at) (drop (at + 12) bs)

-- The byte index of the i-th entry behind the one that begins at first.
unfoldable pub place_at : List ℕ → ℕ → ℕ → ℕ
place_at bs first zero = first
place_at bs first (suc i) = place_at bs first i + 12 + length_at bs (place_at bs first i)

-- The k entries from a byte index on.
unfoldable pub entries_at : List ℕ → ℕ → ℕ → List Entry
entries_at bs at zero = []
entries_at bs at (suc k) = entry (front_term (drop at bs)) (text_at bs at) ∷ entries_at bs (at + 12 + length_at bs at) k

-- A dictionary's bytes hold some entries, and how far they fill it: their end, and the next number of each kind; no kind has run out of
-- numbers.
pub record FilledBy (bs : List ℕ) (f : Filled) (es : List Entry) : Type 0 where
  pub holds : Holds bs f.end es
  pub uris : f.uris ≡ next_number 0 es
  pub blanks : f.blanks ≡ next_number 1 es
  pub literals : f.literals ≡ next_number 2 es
  pub enough : are_numbers_enough es ≡ true
