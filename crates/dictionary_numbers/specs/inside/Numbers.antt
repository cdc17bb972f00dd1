-- The next numbers of a filled dictionary, by kind. Definitions only.
use Rattle.std.specs.Prelude.{ℕ, zero, suc, ◌+◌, ◌≡◌, true, List}
use Rattle.spec_ntriples.specs.Dictionary.{Entry, next_number, are_numbers_enough}
use Rattle.dictionary_bytes.specs.declared.Filled.{Filled}

-- The next number of a kind.
unfoldable pub number_of : Filled → ℕ → ℕ
number_of f zero = f.uris
number_of f (suc zero) = f.blanks
number_of f (suc (suc k)) = f.literals

-- The same dictionary with a text of a kind more, and its end.
unfoldable pub raised : Filled → ℕ → ℕ → Filled
raised f zero end = record { end = end; uris = f.uris + 1; blanks = f.blanks; literals = f.literals }
raised f (suc zero) end = record { end = end; uris = f.uris; blanks = f.blanks + 1; literals = f.literals }
raised f (suc (suc k)) end = record { end = end; uris = f.uris; blanks = f.blanks; literals = f.literals + 1 }

-- The next numbers are those behind some entries, and no kind has run out of them.
pub record Counts (f : Filled) (es : List Entry) : Type 0 where
  pub uris : f.uris ≡ next_number 0 es
  pub blanks : f.blanks ≡ next_number 1 es
  pub literals : f.literals ≡ next_number 2 es
  pub enough : are_numbers_enough es ≡ true
