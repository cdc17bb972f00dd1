-- The tests of a table, one by one. Assumes nothing.
use Prim.Native.Nat.{ℕ, ◌+◌, ◌*◌, ◌≤◌, ◌<◌}
use mathlib.Core.Path.{◌≡◌, refl}
use mathlib.Core.Bool.{Bool, false, ◌&&◌}
use mathlib.Core.List.{List, [], ◌∷◌}
use native.Mathlib.Numerals.{add-one}
use native.Mathlib.Omega.{arith}
use lib.ListN.{length, drop}
use borrow.Author.Tests.{le-leb, lt-leb}
use Rattle.spec.specs.declared.Triple.{Triple}
use Rattle.spec.specs.Order.{is_ascending}
use Rattle.spec.specs.Tables.{capacity, count, first_rows, are_zero, is_table}
use Rattle.spec.specs.Lists.{all}
use Rattle.spec.proofs.TableAll.{and_assoc}
use Rattle.table_rows.specs.inside.Rows.{are_rows_from}

pub no_word : (allowed : Triple → Bool) (most : ℕ) (ws : List ℕ) → length ws ≡ 0 → is_table allowed most ws ≡ false
unfolding is_table
no_word allowed most [] h = refl
no_word allowed most (n ∷ ws) h = absurd (omega arith)

pub too_many : (allowed : Triple → Bool) (most : ℕ) (ws : List ℕ) → 0 < length ws → capacity most ws < count ws → is_table allowed most ws ≡ false
unfolding is_table
too_many allowed most [] h k = absurd (omega arith)
too_many allowed most (n ∷ ws) h k = rw (lt-leb n (capacity most (n ∷ ws)) k)

pub enough : (allowed : Triple → Bool) (most : ℕ) (ws : List ℕ) → 0 < length ws → count ws ≤ capacity most ws
    → is_table allowed most ws ≡ (are_rows_from allowed ws (count ws) 0 && are_zero (drop (count ws * 3 + 1) ws))
unfolding is_table are_rows_from
enough allowed most [] h k = absurd (omega arith)
enough allowed most (n ∷ ws) h k =
    rw (le-leb n (capacity most (n ∷ ws)) k, add-one (n * 3)) (and_assoc (is_ascending (first_rows n ws)) (all allowed (first_rows n ws)) (are_zero (drop (n * 3) ws)))
