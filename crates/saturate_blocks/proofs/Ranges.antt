-- Laws of sums over ranges of places. Assumes nothing.
use mathlib.Core.Path.{◌≡◌, refl, ◌∙◌}
use Prim.Native.Nat.{ℕ, zero, suc, ◌+◌, ◌-◌, ◌≤◌, ◌<◌}
use native.Mathlib.Omega.{arith}
use Rattle.saturate_schema.specs.inside.Sums.{sum_to}
use Rattle.saturate_schema.proofs.Sums.{sum_more}
use Rattle.saturate_blocks.specs.inside.Sums.{sum_from}

-- A range is the difference of two sums.
pub from_to : (h : ℕ → ℕ) (a n : ℕ) → sum_to h (a + n) ≡ sum_to h a + sum_from h a n
unfolding sum_to sum_from
from_to h a zero = let e : a + 0 ≡ a = omega arith in rw e (omega arith)
from_to h a (suc n) =
    let e : a + suc n ≡ (a + 1) + n = omega arith in
    rw e (omega (arith, from_to h (a + 1) n, sum_more h a))

-- Two ranges, one after the other.
pub from_split : (h : ℕ → ℕ) (a k n : ℕ) → sum_from h a (k + n) ≡ sum_from h a k + sum_from h (a + k) n
unfolding sum_from
from_split h a zero n = let e : 0 + n ≡ n = omega arith in let g : a + 0 ≡ a = omega arith in rw (e, g) (omega arith)
from_split h a (suc k) n =
    let e : suc k + n ≡ suc (k + n) = omega arith in
    let g : a + suc k ≡ a + 1 + k = omega arith in
    rw (e, g) (omega (arith, from_split h (a + 1) k n))

-- The same, by their ends.
pub from_join : (h : ℕ → ℕ) (a b c : ℕ) → a ≤ b → b ≤ c → sum_from h a (c - a) ≡ sum_from h a (b - a) + sum_from h b (c - b)
from_join h a b c l u =
    let e : c - a ≡ (b - a) + (c - b) = omega arith in
    let g : a + (b - a) ≡ b = omega arith in
    rw e (from_split h a (b - a) (c - b) ∙ rw g refl)

-- Equal terms have equal sums.
pub from_ext : (h g : ℕ → ℕ) (a n : ℕ) → ((y : ℕ) → a ≤ y → y < a + n → h y ≡ g y) → sum_from h a n ≡ sum_from g a n
unfolding sum_from
from_ext h g a zero e = refl
from_ext h g a (suc n) e = omega (arith, e a (omega arith) (omega arith), from_ext h g (a + 1) n (λ y l u. e y (omega arith) (omega arith)))

-- Terms of 0 sum to 0.
pub from_zero : (h : ℕ → ℕ) (a n : ℕ) → ((y : ℕ) → a ≤ y → y < a + n → h y ≡ 0) → sum_from h a n ≡ 0
unfolding sum_from
from_zero h a zero e = refl
from_zero h a (suc n) e = omega (arith, e a (omega arith) (omega arith), from_zero h (a + 1) n (λ y l u. e y (omega arith) (omega arith)))

-- A range outside of which the terms are 0.
pub from_part : (h : ℕ → ℕ) (a b c e : ℕ) → a ≤ b → b ≤ c → c ≤ e → ((y : ℕ) → a ≤ y → y < b → h y ≡ 0) → ((y : ℕ) → c ≤ y → y < e → h y ≡ 0) → sum_from h a (e - a) ≡ sum_from h b (c - b)
from_part h a b c e ab bc ce low high =
    omega (
      arith,
      from_join h a b e ab (omega arith),
      from_join h b c e bc ce,
      from_zero h a (b - a) (λ y l u. low y l (omega arith)),
      from_zero h c (e - c) (λ y l u. high y l (omega arith)),
    )

-- The sum of all places below n is that of a range outside of which the terms are 0.
pub to_part : (h : ℕ → ℕ) (a b n : ℕ) → a ≤ b → b ≤ n → ((y : ℕ) → y < a → h y ≡ 0) → ((y : ℕ) → b ≤ y → y < n → h y ≡ 0) → sum_to h n ≡ sum_from h a (b - a)
unfolding sum_to
to_part h a b n ab bn low high =
    let e : 0 + n ≡ n = omega arith in
    let q : n - 0 ≡ n = omega arith in
    let z : sum_to h (0 + n) ≡ 0 + sum_from h 0 n = from_to h 0 n in
    omega (arith, rw e at z, rw q at (from_part h 0 a b n (omega arith) ab bn (λ y l u. low y u) high))
