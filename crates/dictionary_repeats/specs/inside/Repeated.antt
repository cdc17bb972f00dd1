-- Entries of a dictionary that have the text of an entry of a segment before them. Definitions only.
use Rattle.std.specs.Prelude.{ℕ, ◌<◌, Bool, true, false, List}
use Rattle.dictionary_bytes.specs.inside.Entries.{text_at, place_at}
use Rattle.dictionary_index.specs.inside.Index.{NoEntry, Repeats}

-- Whether one of the k entries from first on has the text of the entry at a byte index.
abbrev pub IsRepeated : List ℕ → ℕ → ℕ → ℕ → Bool → Type 0
IsRepeated bs first k at true = Repeats bs first k at
IsRepeated bs first k at false = NoEntry bs first k (text_at bs at)

-- An entry between two byte indexes has the text of one of the k entries from first on.
pub record SomeRepeats (bs : List ℕ) (first k from last : ℕ) : Type 0 where
  pub number : ℕ
  pub within : place_at bs from number < last
  pub repeats : Repeats bs first k (place_at bs from number)

-- None of the entries between two byte indexes has.
abbrev pub NoneRepeats : (bs : List ℕ) (first k from last : ℕ) → Type 0
NoneRepeats bs first k from last = (i : ℕ) → place_at bs from i < last → NoEntry bs first k (text_at bs (place_at bs from i))

-- Whether one has.
abbrev pub AreRepeated : (bs : List ℕ) (first k from last : ℕ) → Bool → Type 0
AreRepeated bs first k from last true = SomeRepeats bs first k from last
AreRepeated bs first k from last false = NoneRepeats bs first k from last
