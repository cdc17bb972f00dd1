-- Laws of numbers in decimal. Assumes nothing.
use Prim.Native.Nat.{ℕ, zero, suc, ◌+◌, ◌*◌, ◌/◌, ◌%◌, ◌≤◌, ◌<◌}
use mathlib.Core.Path.{◌≡◌, refl, sym, ap, ◌∙◌}
use mathlib.Core.List.{List, [], ◌∷◌, ◌++◌}
use native.Mathlib.Omega.{arith}
use lib.ListN.{length, length-append}
use lib.Dec.{ltb}
use borrow.Author.Tests.{lt-ltb, le-ltb, ltb-true, ltb-false}
use Rattle.spec.proofs.Lists.{by_test}
use Rattle.report_text.specs.Text.{digits, decimal}

-- ---- the digits of a number

-- A number below 10 is one digit,
digits_small : (fuel n : ℕ) → n < 10 → digits (suc fuel) n ≡ (48 + n) ∷ []
unfolding digits
digits_small fuel n h = rw (lt-ltb n 10 h) refl

-- and the last digit of any other is what 10 leaves of it.
digits_large : (fuel n : ℕ) → 10 ≤ n → digits (suc fuel) n ≡ digits fuel (n / 10) ++ ((48 + n % 10) ∷ [])
unfolding digits
digits_large fuel n h = rw (le-ltb n 10 h) refl

-- Any fuel above the number gives the same digits.
digits_enough : (f g n : ℕ) → n < f → n < g → digits f n ≡ digits g n
digits_enough zero g n h k = absurd (omega arith)
digits_enough (suc f) zero n h k = absurd (omega arith)
digits_enough (suc f) (suc g) n h k =
    by_test (ltb n 10)
    (λ s. let l = ltb-true n 10 s in digits_small f n l ∙ sym (digits_small g n l))
    (λ s.
    let l = ltb-false n 10 s in
    digits_large f n l
    ∙ ap (λ (ds : List ℕ). ds ++ ((48 + n % 10) ∷ [])) (digits_enough f g (n / 10) (omega arith) (omega arith))
    ∙ sym (digits_large g n l))

pub decimal_small : (n : ℕ) → n < 10 → decimal n ≡ (48 + n) ∷ []
unfolding decimal
decimal_small n h = digits_small n n h

pub decimal_large : (n : ℕ) → 10 ≤ n → decimal n ≡ decimal (n / 10) ++ ((48 + n % 10) ∷ [])
unfolding decimal
decimal_large n h =
    digits_large n n h ∙ ap (λ (ds : List ℕ). ds ++ ((48 + n % 10) ∷ [])) (digits_enough n (suc (n / 10)) (n / 10) (omega arith) (omega arith))

-- ---- their number

-- The numbers of at most k digits end at this one.
unfoldable power : ℕ → ℕ
power zero = 1
power (suc k) = 10 * power k

-- Below it there are at most so many digits.
length_below : (k n : ℕ) → n < power (suc k) → length (decimal n) ≤ suc k
unfolding power
length_below zero n h = rw (decimal_small n (omega arith)) (omega arith)
length_below (suc k) n h =
    by_test (ltb n 10)
    (λ s. rw (decimal_small n (ltb-true n 10 s)) (omega arith))
    (λ s.
    let shorter : length (decimal (n / 10)) ≤ suc k = length_below k (n / 10) (omega arith) in
    rw (decimal_large n (ltb-false n 10 s), length-append (decimal (n / 10)) ((48 + n % 10) ∷ [])) (omega arith))

-- A number of 32 bits has at most ten digits.
pub decimal-length : (n : ℕ) → n < 4294967296 → length (decimal n) ≤ 10
unfolding power
decimal-length n h = length_below 9 n (omega arith)
