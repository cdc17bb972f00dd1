-- What lowering kept facts in the words of their tables asks for, and what its steps leave. Definitions only.
use Rattle.std.specs.Prelude.{ℕ, ◌*◌, ◌≤◌, ◌<◌, ◌≡◌, List, ◌++◌, length, take, drop}
use Rattle.spec.specs.inside.Comparison.{Less, Ascending}
use Rattle.spec.specs.Tables.{count, triple_from, row_at, first_rows, rows}
use Rattle.spec.specs.Saturation.{Kept}
use Rattle.update_kept.specs.inside.Entries.{entries, Room, KeptTables}

-- The rows that are to be lowered: the c rows rs ascend.
pub record Lowerable (ws us rs : List ℕ) (c : ℕ) : Type 0 where
  pub tables : KeptTables ws us
  pub listed : c * 3 ≤ length rs
  pub lowered_ascend : Ascending (first_rows c rs)

-- Rows are less than the first of others from the start to place i.
pub record Passed (i : ℕ) (ws rs : List ℕ) : Type 0 where
  pub within : i ≤ length (rows ws)
  pub below : (p : ℕ) → p < i → Less (row_at ws p) (triple_from rs 0)

-- The tables ws' and us', made of ws and us, hold the kept facts k in n places: those before place write, and those from place read on.
pub record Gapped (k : Kept) (n read write : ℕ) (ws us ws' us' : List ℕ) : Type 0 where
  pub room : Room n ws' us'
  pub same-words : length ws' ≡ length ws
  pub same_places : length us' ≡ length us
  pub same_count : count ws' ≡ count ws
  pub write_le : write ≤ read
  pub read_le : read ≤ n
  pub is : take write (entries n ws' us') ++ drop read (entries n ws' us') ≡ k

-- The same tables, with zeros from place n on.
pub record Cleared (n : ℕ) (ws us ws' us' : List ℕ) : Type 0 where
  pub room : Room n ws' us'
  pub same-words : length ws' ≡ length ws
  pub same_places : length us' ≡ length us
  pub same_entries : entries n ws' us' ≡ entries n ws us
