-- Entries of a dictionary whose texts differ. Definitions only.
use Rattle.std.specs.Prelude.{ℕ, ◌≤◌, ◌<◌, ◌≡◌, Bool, true, false, List, Option, None, Some}
use Rattle.dictionary_bytes.specs.inside.Entries.{text_at, place_at}
use Rattle.dictionary_index.specs.inside.Index.{AreEntries}

-- Two of the entries between two byte indexes have one text.
pub record Repeat (bs : List ℕ) (first last : ℕ) : Type 0 where
  pub earlier : ℕ
  pub later : ℕ
  pub before : earlier < later
  pub within : place_at bs first later < last
  pub same : text_at bs (place_at bs first earlier) ≡ text_at bs (place_at bs first later)

-- The first k of the entries between two byte indexes have other texts than those behind them.
abbrev pub Differ : (bs : List ℕ) (first last k : ℕ) → Type 0
Differ bs first last k = (i j : ℕ) → i < k → i < j → place_at bs first j < last → text_at bs (place_at bs first i) ≡ text_at bs (place_at bs first j) → ⊥

-- The entries from first to an index have; there is at least one, and the others are behind it.
pub record ApartTo (bs : List ℕ) (first last end : ℕ) : Type 0 where
  pub count : ℕ
  pub ends : end ≡ place_at bs first count
  pub some : first < end
  pub within : end ≤ last
  pub differ : Differ bs first last count
  pub behind : AreEntries bs end last

-- What is found of a segment: the index behind it, or nothing where a text repeats.
abbrev pub IsApart : (bs : List ℕ) (first last : ℕ) → Option ℕ → Type 0
IsApart bs first last None = Repeat bs first last
IsApart bs first last (Some end) = ApartTo bs first last end

-- The texts of all entries up to a byte index differ.
abbrev pub Distinct : List ℕ → ℕ → Type 0
Distinct bs last = (i j : ℕ) → i < j → place_at bs 0 j < last → text_at bs (place_at bs 0 i) ≡ text_at bs (place_at bs 0 j) → ⊥

-- Whether they do.
abbrev pub AreDistinct : List ℕ → ℕ → Bool → Type 0
AreDistinct bs last true = Distinct bs last
AreDistinct bs last false = Repeat bs 0 last
