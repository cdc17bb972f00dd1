-- Sums of a function over places. Definitions only.
use Rattle.std.specs.Prelude.{List, ℕ, zero, suc, ◌+◌, get_or}

-- The sum of h over the numbers below n.
unfoldable pub sum_to : (ℕ → ℕ) → ℕ → ℕ
sum_to h zero = 0
sum_to h (suc n) = h n + sum_to h n

-- The sum of h over the first n words of an index.
unfoldable pub sum_at : (ℕ → ℕ) → List ℕ → ℕ → ℕ
sum_at h ix zero = 0
sum_at h ix (suc n) = h (get_or ix n 0) + sum_at h ix n
