-- Laws of kept facts: `lookup`, `raise` and `lower`; the supports fix the list. Assumes nothing.
use mathlib.Core.Path.{◌≡◌, refl, sym, ap₂, ◌∙◌}
use mathlib.Core.Bool.{cond}
use mathlib.Core.List.Memᴰ
use mathlib.Core.List.{[], ◌∷◌, Memᴰ}
use mathlib.Core.Logic.{⊎_elim, by_cases, ◌↔◌}
use Prim.Native.Nat.{ℕ, zero, suc, ◌+◌, ◌-◌, ◌≤◌, ◌<◌}
use native.Mathlib.Omega.{arith}
use lib.ListN.{length, length-map}
use Rattle.spec.specs.declared.Triple.{Triple}
use Rattle.spec.specs.Order.{is_same}
use Rattle.spec.specs.inside.Comparison.{Less, Trichotomy, less, same, more, compare_triples, equal_triples, Above, Ascending}
use Rattle.spec.proofs.Order.{less_trans, less_ne}
use Rattle.spec.proofs.Tests.{same_yes, same_no, order_elim}
use Rattle.spec.proofs.Ascending.{above-member}
use Rattle.spec.specs.Saturation.{Kept, raise, one_less, lower, kept_rows, kept_supports}
use Rattle.spec.specs.inside.Counts.{KeptAbove, Counts, lookup}

-- 1 if u is t, else 0.
pub one : Triple → Triple → ℕ
one u t = cond (is_same u t) 1 0

-- ---- the clauses as equations

-- No row is kept in an empty list.
pub lookup_nil : (u : Triple) → lookup [] u ≡ 0
unfolding lookup
lookup_nil u = refl

-- The first row has its own support,
pub lookup_same : (e : Triple × ℕ) (k : Kept) (u : Triple) → u ≡ e.0 → lookup (e ∷ k) u ≡ e.1
unfolding lookup
lookup_same e k u q = same_yes u e.0 e.1 (lookup k u) q

-- and any other row the support that the rest gives it.
pub lookup_other : (e : Triple × ℕ) (k : Kept) (u : Triple) → ¬ (u ≡ e.0) → lookup (e ∷ k) u ≡ lookup k u
unfolding lookup
lookup_other e k u q = same_no u e.0 e.1 (lookup k u) q

-- `one` is 1 at equal triples,
pub one_yes : (u t : Triple) → u ≡ t → one u t ≡ 1
unfolding one
one_yes u t q = same_yes u t 1 0 q

-- and 0 at others.
pub one_no : (u t : Triple) → ¬ (u ≡ t) → one u t ≡ 0
unfolding one
one_no u t q = same_no u t 1 0 q

-- ---- order

-- A list above u is above what is less than u.
kept_weaken : {t u : Triple} (k : Kept) → Less t u → KeptAbove u k → KeptAbove t k
kept_weaken [] h a = tt
kept_weaken (e ∷ k) h a = (less_trans h a.0, a.1, a.2)

-- A list above t is a list of kept facts.
kept_counts : (t : Triple) (k : Kept) → KeptAbove t k → Counts k
kept_counts t [] a = tt
kept_counts t (e ∷ k) a = (a.1, a.2)

-- What is not above t does not stand in a list above t,
absent : {t : Triple} (k : Kept) → KeptAbove t k → (u : Triple) → ¬ Less t u → lookup k u ≡ 0
absent [] a u n = lookup_nil u
absent (e ∷ k) a u n = lookup_other e k u (λ q. n (rw q a.0)) ∙ absent k a.2 u (λ h. n (less_trans a.0 h))

-- nor does what is below the first row.
first_absent : {t : Triple} (e : Triple × ℕ) (k : Kept) → Less t e.0 → Counts (e ∷ k) → (u : Triple) → u ≡ t → lookup (e ∷ k) u ≡ 0
first_absent {t} e k l a u q = absent {t = t} (e ∷ k) (l, a.0, a.1) u (λ h. less_ne h (sym q))

-- ---- raise

-- Raising a row above v keeps the list above v.
kept_above-raise : {v : Triple} (t : Triple) (k : Kept) → Less v t → KeptAbove v k → KeptAbove v (raise t k)
unfolding raise
kept_above-raise t [] h a = (h, omega arith, tt)
kept_above-raise {v} t (e ∷ k) h a = order_elim (KeptAbove v) t e.0 (λ l. (h, omega arith, (l, a.1, a.2))) (λ q. (a.0, omega arith, a.2)) (λ l. (a.0, a.1, kept_above-raise t k l a.2))

-- Raising keeps the order and the supports above 0.
pub raise_counts : (t : Triple) (k : Kept) → Counts k → Counts (raise t k)
unfolding raise
raise_counts t [] a = (omega arith, tt)
raise_counts t (e ∷ k) a = order_elim Counts t e.0 (λ l. (omega arith, (l, a.0, a.1))) (λ q. (omega arith, a.1)) (λ l. (a.0, kept_above-raise t k l a.1))

-- Raising t gives it one support more, and changes no other.
pub lookup-raise : (t : Triple) (k : Kept) (u : Triple) → Counts k → lookup (raise t k) u ≡ one u t + lookup k u
unfolding raise
lookup-raise t [] u a =
    by_cases (equal_triples u t)
    (λ q. omega (arith, lookup_same (t, 1) [] u q, one_yes u t q, lookup_nil u))
    (λ n. omega (arith, lookup_other (t, 1) [] u n, one_no u t n, lookup_nil u))
lookup-raise t (e ∷ k) u a =
    order_elim (λ (r : Kept). lookup r u ≡ one u t + lookup (e ∷ k) u) t e.0
    (λ l. by_cases (equal_triples u t)
    (λ q. omega (arith, lookup_same (t, 1) (e ∷ k) u q, one_yes u t q, first_absent e k l a u q))
    (λ n. omega (arith, lookup_other (t, 1) (e ∷ k) u n, one_no u t n)))
    (λ q. by_cases (equal_triples u e.0)
    (λ p. omega (arith, lookup_same (e.0, suc e.1) k u p, lookup_same e k u p, one_yes u t (p ∙ sym q)))
    (λ n. omega (arith, lookup_other (e.0, suc e.1) k u n, lookup_other e k u n, one_no u t (λ p. n (p ∙ q)))))
    (λ l. by_cases (equal_triples u e.0)
    (λ p. omega (arith, lookup_same e (raise t k) u p, lookup_same e k u p, one_no u t (λ c. less_ne l (sym p ∙ c))))
    (λ n. omega (arith, lookup_other e (raise t k) u n, lookup_other e k u n, lookup-raise t k u (kept_counts e.0 k a.1))))

-- Raising drops no row, and adds at most one.
pub raise-length : (t : Triple) (k : Kept) → (length k ≤ length (raise t k)) × (length (raise t k) ≤ suc (length k))
unfolding raise
raise-length t [] = omega arith
raise-length t (e ∷ k) =
    order_elim (λ (r : Kept). (suc (length k) ≤ length r) × (length r ≤ suc (suc (length k)))) t e.0 (λ _. omega arith) (λ _. omega arith) (λ _. omega (arith, raise-length t k))

-- ---- lower

-- A row with one support less,
one_less_same : (t : Triple) (n : ℕ) (k : Kept) (u : Triple) → KeptAbove t k → u ≡ t → lookup (one_less t n k) u ≡ n - 1
unfolding one_less
one_less_same t zero k u a q = omega (arith, absent k a u (λ h. less_ne h (sym q)))
one_less_same t (suc zero) k u a q = omega (arith, absent k a u (λ h. less_ne h (sym q)))
one_less_same t (suc (suc n)) k u a q = omega (arith, lookup_same (t, suc n) k u q)

-- and any other row.
one_less_other : (t : Triple) (n : ℕ) (k : Kept) (u : Triple) → ¬ (u ≡ t) → lookup (one_less t n k) u ≡ lookup k u
unfolding one_less
one_less_other t zero k u q = refl
one_less_other t (suc zero) k u q = refl
one_less_other t (suc (suc n)) k u q = lookup_other (t, suc n) k u q

-- The list stays above what it was above,
kept_above-one_less : {v : Triple} (t : Triple) (n : ℕ) (k : Kept) → Less v t → KeptAbove t k → KeptAbove v (one_less t n k)
unfolding one_less
kept_above-one_less t zero k h a = kept_weaken k h a
kept_above-one_less t (suc zero) k h a = kept_weaken k h a
kept_above-one_less t (suc (suc n)) k h a = (h, omega arith, a)

-- also where a later row is lowered.
kept_above-lower : (v t : Triple) (k : Kept) → KeptAbove v k → KeptAbove v (lower t k)
unfolding lower
kept_above-lower v t [] a = tt
kept_above-lower v t (e ∷ k) a = order_elim (KeptAbove v) t e.0 (λ _. a) (λ _. kept_above-one_less e.0 e.1 k a.0 a.2) (λ _. (a.0, a.1, kept_above-lower e.0 t k a.2))

-- Its supports stay above 0.
counts-one_less : (t : Triple) (n : ℕ) (k : Kept) → KeptAbove t k → Counts (one_less t n k)
unfolding one_less
counts-one_less t zero k a = kept_counts t k a
counts-one_less t (suc zero) k a = kept_counts t k a
counts-one_less t (suc (suc n)) k a = (omega arith, a)

-- Lowering keeps the order and the supports above 0.
pub lower_counts : (t : Triple) (k : Kept) → Counts k → Counts (lower t k)
unfolding lower
lower_counts t [] a = tt
lower_counts t (e ∷ k) a = order_elim Counts t e.0 (λ _. a) (λ _. counts-one_less e.0 e.1 k a.1) (λ _. (a.0, kept_above-lower e.0 t k a.1))

-- Lowering t gives it one support less, if it has any, and changes no other.
pub lookup-lower : (t : Triple) (k : Kept) (u : Triple) → Counts k → lookup (lower t k) u ≡ lookup k u - one u t
unfolding lower
lookup-lower t [] u a = omega (arith, lookup_nil u)
lookup-lower t (e ∷ k) u a =
    order_elim (λ (r : Kept). lookup r u ≡ lookup (e ∷ k) u - one u t) t e.0
    (λ l. by_cases (equal_triples u t)
    (λ q. omega (arith, first_absent e k l a u q))
    (λ n. omega (arith, one_no u t n)))
    (λ q. by_cases (equal_triples u e.0)
    (λ p. omega (arith, one_less_same e.0 e.1 k u a.1 p, lookup_same e k u p, one_yes u t (p ∙ sym q)))
    (λ n. omega (arith, one_less_other e.0 e.1 k u n, lookup_other e k u n, one_no u t (λ p. n (p ∙ q)))))
    (λ l. by_cases (equal_triples u e.0)
    (λ p. omega (arith, lookup_same e (lower t k) u p, lookup_same e k u p, one_no u t (λ c. less_ne l (sym p ∙ c))))
    (λ n. omega (arith, lookup_other e (lower t k) u n, lookup_other e k u n, lookup-lower t k u (kept_counts e.0 k a.1))))

-- It has no more rows.
one_less-length : (t : Triple) (n : ℕ) (k : Kept) → length (one_less t n k) ≤ suc (length k)
unfolding one_less
one_less-length t zero k = omega arith
one_less-length t (suc zero) k = omega arith
one_less-length t (suc (suc n)) k = omega arith

-- Lowering adds no row.
pub lower-length : (t : Triple) (k : Kept) → length (lower t k) ≤ length k
unfolding lower
lower-length t [] = omega arith
lower-length t (e ∷ k) = order_elim (λ (r : Kept). length r ≤ suc (length k)) t e.0 (λ _. omega arith) (λ _. one_less-length e.0 e.1 k) (λ _. omega (arith, lower-length t k))

-- ---- the supports fix the list

-- No more supports, no more rows.
pub kept_shorter : (j k : Kept) → Counts j → Counts k → ((u : Triple) → lookup j u ≤ lookup k u) → length j ≤ length k
kept_shorter [] k a b h = omega arith
kept_shorter (e ∷ j) [] a b h = let p = a.0 in absurd (omega (arith, h e.0, lookup_nil e.0, lookup_same e j e.0 refl))
kept_shorter (e ∷ j) (g ∷ k) a b h = go (kept_shorter j k (kept_counts e.0 j a.1) (kept_counts g.0 k b.1)) (kept_shorter (e ∷ j) k a (kept_counts g.0 k b.1)) (compare_triples e.0 g.0)
  where
    go : (((u : Triple) → lookup j u ≤ lookup k u) → length j ≤ length k) → (((u : Triple) → lookup (e ∷ j) u ≤ lookup k u) → suc (length j) ≤ length k) → Trichotomy e.0 g.0 → suc (length j) ≤ suc (length k)
    go f s (less l) = let p = a.0 in absurd (omega (arith, h e.0, lookup_same e j e.0 refl, first_absent g k l b e.0 refl))
    go f s (same q) =
        let r = f (λ u. by_cases (equal_triples u e.0)
        (λ p. omega (arith, absent j a.1 u (λ c. less_ne c (sym p))))
        (λ n. omega (arith, h u, lookup_other e j u n, lookup_other g k u (λ p. n (p ∙ sym q))))) in
        omega arith
    go f s (more l) =
        let r = s (λ u. by_cases (equal_triples u g.0)
        (λ p. omega (arith, first_absent e j l a u p))
        (λ n. omega (arith, h u, lookup_other g k u n))) in
        omega arith

-- The same supports, the same list.
pub kept_ext : (j k : Kept) → Counts j → Counts k → ((u : Triple) → lookup j u ≡ lookup k u) → j ≡ k
kept_ext [] [] a b h = refl
kept_ext [] (g ∷ k) a b h = let p = b.0 in absurd (omega (arith, h g.0, lookup_nil g.0, lookup_same g k g.0 refl))
kept_ext (e ∷ j) [] a b h = let p = a.0 in absurd (omega (arith, h e.0, lookup_nil e.0, lookup_same e j e.0 refl))
kept_ext (e ∷ j) (g ∷ k) a b h = go (kept_ext j k (kept_counts e.0 j a.1) (kept_counts g.0 k b.1)) (compare_triples e.0 g.0)
  where
    go : (((u : Triple) → lookup j u ≡ lookup k u) → j ≡ k) → Trichotomy e.0 g.0 → ◌≡◌ {A = Kept} (e ∷ j) (g ∷ k)
    go ih (less l) = let p = a.0 in absurd (omega (arith, h e.0, lookup_same e j e.0 refl, first_absent g k l b e.0 refl))
    go ih (same q) =
        let n : e.1 ≡ g.1 = sym (lookup_same e j e.0 refl) ∙ h e.0 ∙ lookup_same g k e.0 q in
        ap₂ ◌∷◌ (λ i. (q i, n i))
        (ih (λ u. by_cases (equal_triples u e.0)
        (λ p. absent j a.1 u (λ c. less_ne c (sym p)) ∙ sym (absent k b.1 u (λ c. less_ne c (sym (p ∙ q)))))
        (λ m. sym (lookup_other e j u m) ∙ h u ∙ lookup_other g k u (λ p. m (p ∙ sym q)))))
    go ih (more l) = let p = b.0 in absurd (omega (arith, h g.0, lookup_same g k g.0 refl, first_absent e j l a g.0 refl))

-- ---- the rows and the supports of a list of kept facts

-- There are as many rows as kept facts.
pub length-kept_rows : (k : Kept) → length (kept_rows k) ≡ length k
length-kept_rows k = length-map k (λ (e : Triple × ℕ). e.0)

-- The rows of a list above t ascend from t on.
above_rows : (t : Triple) (k : Kept) → KeptAbove t k → Above t (kept_rows k)
above_rows t [] a = tt
above_rows t (e ∷ k) a = (a.0, above_rows e.0 k a.2)

-- So do the rows of any list of kept facts.
pub kept_ascends : (k : Kept) → Counts k → Ascending (kept_rows k)
kept_ascends [] a = tt
kept_ascends (e ∷ k) a = above_rows e.0 k a.1

-- Each support is at least 1.
pub kept_positive : (k : Kept) → Counts k → (n : ℕ) → Memᴰ n (kept_supports k) → 0 < n
kept_positive [] a n m = absurd (Memᴰ.not-nil m)
kept_positive (e ∷ k) a n m = ⊎_elim (λ q. rw q a.0) (kept_positive k (kept_counts e.0 k a.1) n) (Memᴰ.cases_cons m)

-- Rows that ascend from t on, with supports of at least 1.
above_of : (t : Triple) (k : Kept) → Above t (kept_rows k) → ((n : ℕ) → Memᴰ n (kept_supports k) → 0 < n) → KeptAbove t k
above_of t [] a h = tt
above_of t (e ∷ k) a h = (a.0, h e.1 (Memᴰ.head refl), above_of e.0 k a.1 (λ n m. h n (Memᴰ.tail m)))

-- A list whose rows ascend and whose supports are at least 1 is such a list.
pub counts_of : (k : Kept) → Ascending (kept_rows k) → ((n : ℕ) → Memᴰ n (kept_supports k) → 0 < n) → Counts k
counts_of [] a h = tt
counts_of (e ∷ k) a h = (h e.1 (Memᴰ.head refl), above_of e.0 k a (λ n m. h n (Memᴰ.tail m)))

-- A row is kept exactly if it has a support.
pub lookup_kept : (k : Kept) (t : Triple) → Counts k → (0 < lookup k t) ↔ Memᴰ t (kept_rows k)
lookup_kept [] t a = (λ h. absurd (omega (arith, lookup_nil t)), λ m. absurd (Memᴰ.not-nil m))
lookup_kept (e ∷ k) t a =
    let r = lookup_kept k t (kept_counts e.0 k a.1) in (
      λ h. by_cases (equal_triples t e.0) Memᴰ.head (λ n. Memᴰ.tail (r.0 (omega (arith, lookup_other e k t n)))),
      λ m. by_cases (equal_triples t e.0)
          (λ q. let p = a.0 in omega (arith, lookup_same e k t q))
          (λ n. omega (arith, lookup_other e k t n, r.1 (⊎_elim (λ q. absurd (n q)) (λ j. j) (Memᴰ.cases_cons m)))),
    )

-- Each kept row has the support that stands beside it.
pub lookup_entry : (k : Kept) (e : Triple × ℕ) → Counts k → Memᴰ e k → lookup k e.0 ≡ e.1
lookup_entry [] e a m = absurd (Memᴰ.not-nil m)
lookup_entry (g ∷ k) e a m =
    ⊎_elim
    (λ (q : e ≡ g). rw q (lookup_same g k g.0 refl))
    (λ j.
    let l = above-member (kept_rows k) (above_rows g.0 k a.1) e.0 (Memᴰ.map (λ (d : Triple × ℕ). d.0) j) in
    lookup_other g k e.0 (λ q. less_ne l (sym q)) ∙ lookup_entry k e (kept_counts g.0 k a.1) j)
    (Memᴰ.cases_cons m)

-- A kept row with the support n.
pub record Supported (k : Kept) (n : ℕ) : Type 0 where
  pub row : Triple
  pub kept : Memᴰ row (kept_rows k)
  pub supported : lookup k row ≡ n

-- Each support is the support of a kept row.
pub support_of : (k : Kept) (n : ℕ) → Counts k → Memᴰ n (kept_supports k) → Supported k n
support_of [] n a m = absurd (Memᴰ.not-nil m)
support_of (e ∷ k) n a m =
    ⊎_elim
    (λ (q : n ≡ e.1). record { row = e.0; kept = Memᴰ.head refl; supported = lookup_same e k e.0 refl ∙ sym q })
    (λ j.
    let r = support_of k n (kept_counts e.0 k a.1) j in
    let l = above-member (kept_rows k) (above_rows e.0 k a.1) r.row r.kept in
    record { row = r.row; kept = Memᴰ.tail r.kept; supported = lookup_other e k r.row (λ q. less_ne l (sym q)) ∙ r.supported })
    (Memᴰ.cases_cons m)
