-- What setting words to zero does to them: t are the words at entry, s those at exit. Definitions only; assumes nothing.
use Rattle.std.specs.Prelude.{ℕ, ◌<◌, ◌≤◌, ◌≡◌, List, get_or}

-- The words from a up to e, without e, are zero, and the others are as they were.
pub record WordsZeroed (a e : ℕ) (t s : List ℕ) : Type 0 where
  pub low : (w : ℕ) → w < a → get_or s w 0 ≡ get_or t w 0
  pub zeros : (w : ℕ) → a ≤ w → w < e → get_or s w 0 ≡ 0
  pub high : (w : ℕ) → e ≤ w → get_or s w 0 ≡ get_or t w 0
