-- The rows of a table, as the scan of them asks for them. Definitions only.
use Rattle.std.specs.Prelude.{ℕ, ◌-◌, Bool, ◌&&◌, List, drop}
use Rattle.spec.specs.declared.Triple.{Triple}
use Rattle.spec.specs.Order.{is_ascending}
use Rattle.spec.specs.Tables.{first_rows}
use Rattle.spec.specs.Lists.{all}

-- Whether of the first n rows of a table those from row i on are allowed in it and ascend from the row before them.
unfoldable pub are_rows_from : (Triple → Bool) → List ℕ → ℕ → ℕ → Bool
are_rows_from allowed ws n i = is_ascending (drop (i - 1) (first_rows n (drop 1 ws))) && all allowed (drop i (first_rows n (drop 1 ws)))
