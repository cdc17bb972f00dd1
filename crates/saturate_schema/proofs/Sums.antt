-- Laws of sums over places. Assumes nothing.
use mathlib.Core.Path.{◌≡◌, refl}
use mathlib.Core.List.{List}
use mathlib.Core.Logic.{by_cases}
use Prim.Native.Nat.{ℕ, zero, suc, ◌+◌, ◌≤◌, ◌<◌}
use native.Mathlib.Omega.{arith}
use native.Mathlib.Decide.{ℕ_discrete}
use native.Mathlib.Numerals.{add-one}
use lib.ListN.{get_or}
use Rattle.saturate_schema.specs.inside.Sums.{sum_to, sum_at}

-- One place more.
pub sum_more : (h : ℕ → ℕ) (n : ℕ) → sum_to h (n + 1) ≡ h n + sum_to h n
unfolding sum_to
sum_more h n = rw (add-one n)

-- Equal terms, equal sums.
pub sum_ext : (h g : ℕ → ℕ) (n : ℕ) → ((y : ℕ) → y < n → h y ≡ g y) → sum_to h n ≡ sum_to g n
unfolding sum_to
sum_ext h g zero e = refl
sum_ext h g (suc n) e = omega (arith, e n (omega arith), sum_ext h g n (λ y l. e y (omega arith)))

-- Nothing is added where each term is 0.
pub sum_zero : (h : ℕ → ℕ) (n : ℕ) → ((y : ℕ) → y < n → h y ≡ 0) → sum_to h n ≡ 0
unfolding sum_to
sum_zero h zero e = refl
sum_zero h (suc n) e = omega (arith, e n (omega arith), sum_zero h n (λ y l. e y (omega arith)))

-- Nothing is added from e on, where each term is 0.
pub sum_rest : (h : ℕ → ℕ) (e n : ℕ) → e ≤ n → ((y : ℕ) → e ≤ y → y < n → h y ≡ 0) → sum_to h n ≡ sum_to h e
unfolding sum_to
sum_rest h e zero le z = let q : e ≡ 0 = omega arith in rw q
sum_rest h e (suc n) le z =
    by_cases (ℕ_discrete e (suc n))
    (λ q. rw q)
    (λ k. omega (arith, z n (omega arith) (omega arith), sum_rest h e n (omega arith) (λ y a b. z y a (omega arith))))

-- A sum of sums, term by term.
pub sum-add : (h a b : ℕ → ℕ) (n : ℕ) → ((y : ℕ) → y < n → h y ≡ a y + b y) → sum_to h n ≡ sum_to a n + sum_to b n
unfolding sum_to
sum-add h a b zero e = refl
sum-add h a b (suc n) e = omega (arith, e n (omega arith), sum-add h a b n (λ y l. e y (omega arith)))

-- Terms that are equal from i to e add the same there.
pub sum-between : (h g : ℕ → ℕ) (i e : ℕ) → i ≤ e → ((y : ℕ) → i ≤ y → y < e → h y ≡ g y) → sum_to h e + sum_to g i ≡ sum_to g e + sum_to h i
unfolding sum_to
sum-between h g i zero le q = let z : i ≡ 0 = omega arith in rw z
sum-between h g i (suc e) le q =
    by_cases (ℕ_discrete i (suc e))
    (λ z. rw z (omega arith))
    (λ k. omega (arith, q e (omega arith) (omega arith), sum-between h g i e (omega arith) (λ y a b. q y a (omega arith))))

-- A sum of bits is at most the number of places.
pub sum_bound : (h : ℕ → ℕ) (n : ℕ) → ((y : ℕ) → y < n → h y ≤ 1) → sum_to h n ≤ n
unfolding sum_to
sum_bound h zero e = omega arith
sum_bound h (suc n) e = omega (arith, e n (omega arith), sum_bound h n (λ y l. e y (omega arith)))

-- More places, no lesser sum.
pub sum_grows : (h : ℕ → ℕ) (i n : ℕ) → i ≤ n → sum_to h i ≤ sum_to h n
unfolding sum_to
sum_grows h i zero le = let q : i ≡ 0 = omega arith in rw q (omega arith)
sum_grows h i (suc n) le = by_cases (ℕ_discrete i (suc n)) (λ q. rw q (omega arith)) (λ k. omega (arith, sum_grows h i n (omega arith)))

-- A term is at most the sum.
pub sum_term : (h : ℕ → ℕ) (y n : ℕ) → y < n → h y ≤ sum_to h n
sum_term h y n l = omega (arith, sum_more h y, sum_grows h (y + 1) n (omega arith))

-- The first place apart.
pub sum_first : (h : ℕ → ℕ) (n : ℕ) → sum_to h (suc n) ≡ h 0 + sum_to (λ y. h (suc y)) n
unfolding sum_to
sum_first h zero = refl
sum_first h (suc n) = omega (arith, sum_first h n)

-- The sum over an index is the sum of what its words give.
pub sum_at_is : (h : ℕ → ℕ) (ix : List ℕ) (n : ℕ) → sum_at h ix n ≡ sum_to (λ a. h (get_or ix a 0)) n
unfolding sum_to sum_at
sum_at_is h ix zero = refl
sum_at_is h ix (suc n) = omega (arith, sum_at_is h ix n)

-- Terms that are 0 before i and from e on, and between as those of g, add what those add there.
pub sum-range : (h g : ℕ → ℕ) (i e n : ℕ) → i ≤ e → e ≤ n → ((y : ℕ) → y < i → h y ≡ 0) → ((y : ℕ) → i ≤ y → y < e → h y ≡ g y) → ((y : ℕ) → e ≤ y → y < n → h y ≡ 0) → sum_to h n + sum_to g i ≡ sum_to g e
sum-range h g i e n l k a b c = omega (arith, sum_zero h i a, sum-between h g i e l b, sum_rest h e n k c)
