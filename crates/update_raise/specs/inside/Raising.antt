-- What raising kept facts in the words of their tables asks for. Definitions only.
use Rattle.std.specs.Prelude.{ℕ, zero, suc, ◌+◌, ◌*◌, ◌^◌, ◌≤◌, ◌<◌, ◌≡◌, List, length, get_or, Result, Ok, Err}
use Rattle.std.specs.declared.cmp.Ordering.{Ordering}
use Rattle.std.specs.declared.cmp.Ordering.TheVariants.{Less}
use Rattle.spec.specs.declared.Triple.{Triple}
use Rattle.spec.specs.inside.Comparison.{Ascending}
use Rattle.spec.specs.Tables.{row_at, first_rows, rows, kept_of}
use Rattle.table_find.specs.inside.Search.{ordering}
use Rattle.spec.specs.Saturation.{raise_all}
use Rattle.update_kept.specs.inside.Entries.{KeptTables}

-- 1 where a row is missing, else 0.
unfoldable pub absence : Result ℕ ℕ → ℕ
absence (Ok i) = 0
absence (Err i) = 1

-- The rows and supports that are to be raised: each support has a number above it, the c rows rs ascend, so many of them are
-- missing, and there is room for those.
pub record Raisable (ws us rs : List ℕ) (c missing : ℕ) : Type 0 where
  pub tables : KeptTables ws us
  pub below_most : (p : ℕ) → p < length (rows ws) → get_or us p 0 < 65535
  pub listed : c * 3 ≤ length rs
  pub raised_ascend : Ascending (first_rows c rs)
  pub counted : missing + length (rows ws) ≡ length (raise_all (first_rows c rs) (kept_of ws us))
  pub words : (length (rows ws) + missing) * 3 < length ws
  pub places : length (rows ws) + missing ≤ length us
  pub countable : length (rows ws) + missing < 2 ^ 32

-- How the row before place i stands to x. Where there is none, it is less.
unfoldable pub last_ordering : ℕ → List ℕ → Triple → Ordering
last_ordering zero ws x = Less
last_ordering (suc i) ws x = ordering (row_at ws i) x
