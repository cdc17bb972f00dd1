-- Rows lowered from the first to the last, in a list of kept facts. Assumes nothing.
use Prim.Native.Nat.{ℕ, zero, suc, ◌-◌, ◌≤◌, ◌<◌}
use mathlib.Core.Path.{◌≡◌, refl, ap, ◌∙◌}
use mathlib.Core.List.{List, [], ◌∷◌, ◌++◌}
use native.Mathlib.Omega.{arith}
use Rattle.spec.specs.declared.Triple.{Triple}
use Rattle.spec.specs.inside.Comparison.{Less, Above}
use Rattle.spec.proofs.Tests.{order_elim, order-less, order_same, order_more}
use Rattle.spec.proofs.Ascending.{above_weaken}
use Rattle.spec.specs.Saturation.{Kept, one_less, lower, lower_all, kept_rows}
use Rattle.update_kept.proofs.Less.{AllLess}

-- A kept fact below every row stays as it is,
lower_past : (t : Triple) (e : Triple × ℕ) (k : Kept) → Less e.0 t → lower t (e ∷ k) ≡ e ∷ lower t k
unfolding lower
lower_past t e k h = order_more t e.0 _ _ _ h

pub lower_all_past : (ts : List Triple) (e : Triple × ℕ) (k : Kept) → Above e.0 ts → lower_all ts (e ∷ k) ≡ e ∷ lower_all ts k
unfolding lower_all
lower_all_past [] e k a = refl
lower_all_past (t ∷ ts) e k a = ap (lower t) (lower_all_past ts e k (above_weaken ts a.0 a.1)) ∙ lower_past t e (lower_all ts k) a.0

-- and so does each of several.
pub lower_all_before : (t : Triple) (ts : List Triple) (k d : Kept) → AllLess (kept_rows k) t → Above t ts → lower_all (t ∷ ts) (k ++ d) ≡ k ++ lower_all (t ∷ ts) d
lower_all_before t ts [] d h a = refl
lower_all_before t ts (e ∷ k) d h a = lower_all_past (t ∷ ts) e (k ++ d) (h.0, a) ∙ ap (λ (r : Kept). e ∷ r) (lower_all_before t ts k d h.1 a)

-- No kept fact, nothing to lower.
pub lower_all_nil : (ts : List Triple) → lower_all ts [] ≡ []
unfolding lower_all lower
lower_all_nil [] = refl
lower_all_nil (t ∷ ts) = rw (lower_all_nil ts) refl

-- What is above a row stays above it.
above-one_less : {v : Triple} (t : Triple) (n : ℕ) (k : Kept) → Less v t → Above t (kept_rows k) → Above v (kept_rows (one_less t n k))
unfolding one_less
above-one_less t zero k h a = above_weaken (kept_rows k) h a
above-one_less t (suc zero) k h a = above_weaken (kept_rows k) h a
above-one_less t (suc (suc n)) k h a = (h, a)

above_lower : (v t : Triple) (k : Kept) → Above v (kept_rows k) → Above v (kept_rows (lower t k))
unfolding lower
above_lower v t [] a = tt
above_lower v t (e ∷ k) a =
    order_elim (λ (r : Kept). Above v (kept_rows r)) t e.0 (λ _. a) (λ _. above-one_less e.0 e.1 k a.0 a.1) (λ _. (a.0, above_lower e.0 t k a.1))

above-lower_all : (v : Triple) (ts : List Triple) (k : Kept) → Above v (kept_rows k) → Above v (kept_rows (lower_all ts k))
unfolding lower_all
above-lower_all v [] k a = a
above-lower_all v (t ∷ ts) k a = above_lower v t (lower_all ts k) (above-lower_all v ts k a)

lower-missing : (t : Triple) (k : Kept) → Above t (kept_rows k) → lower t k ≡ k
unfolding lower
lower-missing t [] a = refl
lower-missing t (e ∷ k) a = order-less t e.0 _ _ _ a.0

-- A row below every kept fact is missing.
pub lower_all-missing : (t : Triple) (ts : List Triple) (k : Kept) → Above t (kept_rows k) → lower_all (t ∷ ts) k ≡ lower_all ts k
unfolding lower_all
lower_all-missing t ts k a = lower-missing t (lower_all ts k) (above-lower_all t ts k a)

-- The first kept fact is the first row: it has one support less,
lower_first : (t : Triple) (n : ℕ) (k : Kept) → lower t ((t, n) ∷ k) ≡ one_less t n k
unfolding lower
lower_first t n k = order_same t t _ _ _ refl

lower_all_first : (t : Triple) (ts : List Triple) (n : ℕ) (k : Kept) → Above t ts → lower_all (t ∷ ts) ((t, n) ∷ k) ≡ one_less t n (lower_all ts k)
unfolding lower_all
lower_all_first t ts n k a = ap (lower t) (lower_all_past ts (t, n) k a) ∙ lower_first t n (lower_all ts k)

-- and stays where it has any left,
one_less_stays : (t : Triple) (n : ℕ) (k : Kept) → 1 < n → one_less t n k ≡ (t, n - 1) ∷ k
unfolding one_less
one_less_stays t zero k h = absurd (omega arith)
one_less_stays t (suc zero) k h = absurd (omega arith)
one_less_stays t (suc (suc n)) k h = let e : suc (suc n) - 1 ≡ suc n = omega arith in rw e refl

pub lower_all_stays : (t : Triple) (ts : List Triple) (n : ℕ) (k : Kept) → Above t ts → 1 < n → lower_all (t ∷ ts) ((t, n) ∷ k) ≡ (t, n - 1) ∷ lower_all ts k
lower_all_stays t ts n k a h = lower_all_first t ts n k a ∙ one_less_stays t n (lower_all ts k) h

-- or goes.
one_less_goes : (t : Triple) (n : ℕ) (k : Kept) → n ≤ 1 → one_less t n k ≡ k
unfolding one_less
one_less_goes t zero k h = refl
one_less_goes t (suc zero) k h = refl
one_less_goes t (suc (suc n)) k h = absurd (omega arith)

pub lower_all_goes : (t : Triple) (ts : List Triple) (n : ℕ) (k : Kept) → Above t ts → n ≤ 1 → lower_all (t ∷ ts) ((t, n) ∷ k) ≡ lower_all ts k
lower_all_goes t ts n k a h = lower_all_first t ts n k a ∙ one_less_goes t n (lower_all ts k) h
