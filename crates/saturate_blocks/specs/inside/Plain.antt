-- The facts of one subject that are put as they are, and where their properties reach one. Definitions only.
use Rattle.std.specs.Prelude.{List, [], ◌∷◌, ℕ, zero, suc, ◌+◌, ◌≤◌, ◌<◌}
use Rattle.spec.specs.Tables.{row_at}
use Rattle.spec.specs.Saturation.{Kept}
use Rattle.saturate_schema.specs.inside.Compiled.{property_at}

-- n facts from fact a on, each with the support 1.
unfoldable pub ones : List ℕ → ℕ → ℕ → Kept
ones f a zero = []
ones f a (suc n) = (row_at f a, 1) ∷ ones f (a + 1) n

-- The facts q .. z are those of the facts q .. e whose property is below w.
pub record Split (f : List ℕ) (q z e w : ℕ) : Type 0 where
  pub low : q ≤ z
  pub high : z ≤ e
  pub before : (y : ℕ) → q ≤ y → y < z → property_at f y < w
  pub after : (y : ℕ) → z ≤ y → y < e → w ≤ property_at f y
