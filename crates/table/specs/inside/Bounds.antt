-- The first of some rows that is not below a triple. Definitions only.
use Rattle.std.specs.Prelude.{ℕ, ◌*◌, ◌≤◌, ◌<◌, ◌≡◌, Bool, true, false, List, length, drop}
use Rattle.spec.specs.declared.Triple.{Triple}
use Rattle.spec.specs.Order.{is_ascending}
use Rattle.spec.specs.inside.Comparison.{Less}
use Rattle.spec.specs.Tables.{row_at, first_rows}

-- The test r tells whether P holds.
pub record Tells (r : Bool) (P : Type 0) : Type 0 where
  pub if_true : r ≡ true → P
  pub if_false : r ≡ false → P → ⊥

-- There are n rows in a table, and they ascend.
pub record Rising (t : List ℕ) (n : ℕ) : Type 0 where
  pub fits : n * 3 < length t
  pub ascends : is_ascending (first_rows n (drop 1 t)) ≡ true

-- Of n rows, those below row r are less than x, and those from there on are not.
pub record Below (t : List ℕ) (n : ℕ) (x : Triple) (r : ℕ) : Type 0 where
  pub within : r ≤ n
  pub less : (k : ℕ) → k < r → Less (row_at t k) x
  pub other : (k : ℕ) → r ≤ k → k < n → ¬ Less (row_at t k) x

-- Of n rows, those below row a are less than x, and those from row b on are not.
pub record Between (t : List ℕ) (n a b : ℕ) (x : Triple) : Type 0 where
  pub ordered : a ≤ b
  pub within : b ≤ n
  pub less : (k : ℕ) → k < a → Less (row_at t k) x
  pub other : (k : ℕ) → b ≤ k → k < n → ¬ Less (row_at t k) x
