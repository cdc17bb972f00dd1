-- A dictionary whose entries are asked one by one. Definitions only.
use Rattle.std.specs.Prelude.{ℕ, ◌+◌, ◌≤◌, ◌<◌, ◌≡◌, Bool, true, false, List, [], ◌++◌, length, get_or, take, drop, eqb, Option, None, Some}
use Rattle.spec.specs.inside.Each.{Each}
use Rattle.spec_ntriples.specs.Dictionary.{Entry, entry, bytes_of_entries, front_term, entries, vocabulary_of, are_numbered, is_dictionary}
use Rattle.spec_ntriples.specs.computed.Canonical.{is_canonical}
use Rattle.dictionary_bytes.specs.inside.Entries.{text_at, place_at, entries_at}
use Rattle.dictionary_bytes.specs.declared.Filled.{Filled}
use Rattle.dictionary_numbers.specs.inside.Numbers.{Counts}

-- All are bytes.
abbrev pub AreBytes : List ℕ → Type 0
AreBytes bs = (i : ℕ) → get_or bs i 0 < 256

-- The entry at a byte index.
abbrev pub entry_at : List ℕ → ℕ → Entry
entry_at bs at = entry (front_term (drop at bs)) (text_at bs at)

-- An entry's text is canonical and none of the vocabulary.
pub record HasOwnText (e : Entry) : Type 0 where
  pub canonical : is_canonical e.text ≡ true
  pub own : eqb (vocabulary_of e.text) 0 ≡ true

-- The entries up to a byte index are right, but for texts that repeat: they are those that the dictionary has before the rest, and the bytes
-- are theirs.
pub record Filling (bs : List ℕ) (f : Filled) : Type 0 where
  pub count : ℕ
  pub place : f.end ≡ place_at bs 0 count
  pub within : f.end ≤ length bs
  pub read : entries bs ≡ entries_at bs 0 count ++ entries (drop f.end bs)
  pub written : take f.end bs ≡ bytes_of_entries (entries_at bs 0 count)
  pub numbered : are_numbered [] (entries_at bs 0 count) ≡ true
  pub counts : Counts f (entries_at bs 0 count)
  pub texts : Each HasOwnText (entries_at bs 0 count)

-- An entry comes at a byte index.
pub record Comes (bs : List ℕ) (at : ℕ) : Type 0 where
  pub header : at + 12 ≤ length bs
  pub term : 0 < front_term (drop at bs)

-- Whether one comes.
abbrev pub IsEntry : List ℕ → ℕ → Bool → Type 0
IsEntry bs at true = Comes bs at
IsEntry bs at false = entries (drop at bs) ≡ []

-- The same with the entry that comes; or what makes the bytes no dictionary.
abbrev pub IsStep : List ℕ → Filled → Option Filled → Type 0
IsStep bs f None = is_dictionary bs ≡ false
IsStep bs f (Some g) = Filling bs g × (f.end < g.end)
