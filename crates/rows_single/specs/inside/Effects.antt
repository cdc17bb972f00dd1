-- What is said of a row beside others, and what writing it does to them. Definitions only.
use Rattle.std.specs.Prelude.{ℕ, ◌+◌, ◌*◌, ◌≤◌, ◌<◌, ◌≡◌, Bool, true, false, get_or}
use mathlib.Core.List.{List, Memᴰ}
use Rattle.rows.specs.inside.Rows.{row_at, rows}
use Rattle.spec.specs.inside.Sorting.{AscendingRows as Ascending}

-- r says whether row x is among the first n rows of t: it is there where r is true, and it is not where r is false and they ascend.
pub record Found (m n : ℕ) (t x : List ℕ) (r : Bool) : Type 0 where
  pub present : r ≡ true → Memᴰ x (rows m t 0 n)
  pub absent : r ≡ false → Ascending (rows m t 0 n) → Memᴰ x (rows m t 0 n) → ⊥

-- Row n is x, and the other words are as they were: t are the words at entry, s those at exit.
pub record RowWritten (m n : ℕ) (x t s : List ℕ) : Type 0 where
  pub here : row_at m s n ≡ x
  pub before : (w : ℕ) → w < n * m → get_or s w 0 ≡ get_or t w 0
  pub after : (w : ℕ) → n * m + m ≤ w → get_or s w 0 ≡ get_or t w 0
