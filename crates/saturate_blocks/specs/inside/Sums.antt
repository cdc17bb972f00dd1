-- Sums over ranges of places. Definitions only.
use Rattle.std.specs.Prelude.{ℕ, zero, suc, ◌+◌}

-- The sum of h over n numbers, from a on.
unfoldable pub sum_from : (ℕ → ℕ) → ℕ → ℕ → ℕ
sum_from h a zero = 0
sum_from h a (suc n) = h a + sum_from h (a + 1) n
