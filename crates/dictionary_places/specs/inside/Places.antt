-- The places of a dictionary's entries, by their terms. Definitions only.
use Rattle.std.specs.Prelude.{ℕ, ◌%◌, ◌≡◌, true, cond, List, ◌∷◌, ◌++◌, eqb, length, get_or, set}
use Rattle.spec.specs.Terms.{kind}
use Rattle.spec_ntriples.specs.Dictionary.{Entry, bytes_of_entries, entries, is_dictionary}
use Rattle.dictionary_bytes.specs.inside.Entries.{FilledBy}
use Rattle.dictionary_bytes.specs.declared.Filled.{Filled}
use Rattle.dictionary_ranks.specs.inside.Ranks.{rank_of, stride_of, slot_for}

-- A place is kept for a term: its rank is a multiple of the stride.
abbrev pub IsKept : Filled → ℕ → Type 0
IsKept f w = rank_of w % stride_of f (kind w) ≡ 0

-- The places with that of a term, where one is kept for it.
unfoldable pub with_place : Filled → List ℕ → ℕ → ℕ → List ℕ
with_place f places w at = cond (eqb (rank_of w % stride_of f (kind w)) 0) (set places (slot_for f w) at) places

-- The places of a dictionary: the slot of each entry for which one is kept has its byte index.
pub record ArePlaces (bs : List ℕ) (f : Filled) (places : List ℕ) : Type 0 where
  pub right : is_dictionary bs ≡ true
  pub filled : FilledBy bs f (entries bs)
  pub long : length places ≡ 49152
  pub lead : (xs ys : List Entry) (e : Entry) → entries bs ≡ xs ++ (e ∷ ys) → IsKept f e.term → get_or places (slot_for f e.term) 0 ≡ length (bytes_of_entries xs)
