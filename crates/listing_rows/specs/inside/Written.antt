-- What the functions that write rows leave: t are the words of the output at entry, s those at exit. Definitions only.
use Rattle.std.specs.Prelude.{ℕ, ◌+◌, ◌*◌, ◌≤◌, ◌<◌, ◌≡◌, List, map, get_or}
use Rattle.spec.specs.Tables as table
use Rattle.rows.specs.inside.Rows.{row_at}
use Rattle.spec.specs.Listings.{column}

-- Row i has the words r, and the other words are as they were.
pub record RowWritten (i : ℕ) (r t s : List ℕ) : Type 0 where
  pub here : row_at 3 s i ≡ r
  pub before : (w : ℕ) → w < i * 3 → get_or s w 0 ≡ get_or t w 0
  pub after : (w : ℕ) → i * 3 + 3 ≤ w → get_or s w 0 ≡ get_or t w 0

-- The first n rows are those of the table ws, with their columns in an order, and the words behind them are as they were.
pub record RowsWritten (columns : List ℕ) (n : ℕ) (ws t s : List ℕ) : Type 0 where
  pub each : (j : ℕ) → j < n → row_at 3 s j ≡ map (column (table.row_at ws j)) columns
  pub after : (w : ℕ) → n * 3 ≤ w → get_or s w 0 ≡ get_or t w 0
