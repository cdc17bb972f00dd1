-- Kept facts in the words of their two tables, place by place, as the functions on them ask for it and leave it. Definitions only.
use Rattle.std.specs.Prelude.{ℕ, ◌+◌, ◌-◌, ◌*◌, ◌≤◌, ◌<◌, ◌≡◌, length, drop, replicate}
use mathlib.Core.List.{List, zip}
use Rattle.spec.specs.inside.Comparison.{Ascending}
use Rattle.spec.specs.Tables.{first_rows, rows, layout}
use Rattle.spec.specs.Lists.{padded}
use Rattle.spec.specs.inside.Laid.{Laid}
use Rattle.spec.specs.Saturation.{Kept, kept_rows, kept_supports}

-- The rows and supports of the first n places.
unfoldable pub entries : ℕ → List ℕ → List ℕ → Kept
entries n ws us = zip (first_rows n (drop 1 ws)) us

-- Both tables have n places, and zeros behind them.
pub record Room (n : ℕ) (ws us : List ℕ) : Type 0 where
  pub words : n * 3 < length ws
  pub places : n ≤ length us
  pub zero-words : drop (n * 3 + 1) ws ≡ replicate (length ws - (n * 3 + 1)) 0
  pub zero_places : drop n us ≡ replicate (length us - n) 0

-- The tables of kept facts and supports are laid out, their rows ascend, and each row has a place for its support.
pub record KeptTables (ws us : List ℕ) : Type 0 where
  pub laid : Laid ws
  pub ascends : Ascending (rows ws)
  pub places : length (rows ws) ≤ length us
  pub zero_places : drop (length (rows ws)) us ≡ replicate (length us - length (rows ws)) 0

-- The rows that are looked for: those kept ascend, and so do the c rows rs.
pub record Sought (ws rs : List ℕ) (c : ℕ) : Type 0 where
  pub laid : Laid ws
  pub ascends : Ascending (rows ws)
  pub listed : c * 3 ≤ length rs
  pub sought_ascend : Ascending (first_rows c rs)

-- Tables of the same lengths as ws and us that hold the kept facts k.
pub record Holding (k : Kept) (ws us ws' us' : List ℕ) : Type 0 where
  pub row_words : ws' ≡ layout (length ws) (kept_rows k)
  pub support_places : us' ≡ padded (length us) (kept_supports k)
