-- Laws of the part of a list of kept facts between two rows. Assumes nothing.
use mathlib.Core.Path.{◌≡◌, refl, sym, ap, ◌∙◌}
use mathlib.Core.List.{[], ◌∷◌, ◌++◌}
use mathlib.Core.Logic.{by_cases}
use Prim.Native.Nat.{ℕ, ◌<◌}
use Rattle.spec.specs.declared.Triple.{Triple}
use Rattle.spec.specs.inside.Comparison.{Less, less_irrefl, less, same, more, compare_triples, equal_triples}
use Rattle.spec.proofs.Order.{less_ne, less_trans, choose_yes, choose_elim}
use Rattle.spec.specs.Saturation.{Kept}
use Rattle.spec.specs.inside.Counts.{KeptAbove, Counts, lookup}
use Rattle.spec.proofs.Kept.{lookup_nil, lookup_same, lookup_other, kept_ext}
use Rattle.saturate_merge.specs.inside.Between.{less_than, Within, within, between}

-- A list above u is above what is less than u.
kept_weaken : {t u : Triple} (k : Kept) → Less t u → KeptAbove u k → KeptAbove t k
kept_weaken [] h a = tt
kept_weaken (e ∷ k) h a = (less_trans h a.0, a.1, a.2)

-- A list above t is a list of kept facts.
kept_counts : (t : Triple) (k : Kept) → KeptAbove t k → Counts k
kept_counts t [] a = tt
kept_counts t (e ∷ k) a = (a.1, a.2)

above-between : (b c t : Triple) (k : Kept) → KeptAbove t k → KeptAbove t (between b c k)
unfolding between
above-between b c t [] a = tt
above-between b c t (e ∷ k) a = choose_elim (KeptAbove t) (within b c e.0) (λ _. (a.0, a.1, above-between b c e.0 k a.2)) (λ _. kept_weaken (between b c k) a.0 (above-between b c e.0 k a.2))

pub between_counts : (b c : Triple) (k : Kept) → Counts k → Counts (between b c k)
unfolding between
between_counts b c [] a = tt
between_counts b c (e ∷ k) a = choose_elim Counts (within b c e.0) (λ _. (a.0, above-between b c e.0 k a.1)) (λ _. kept_counts e.0 (between b c k) (above-between b c e.0 k a.1))

pub inside : (b c : Triple) (k : Kept) (u : Triple) → Within b c u → lookup (between b c k) u ≡ lookup k u
unfolding between
inside b c [] u w = refl
inside b c (e ∷ k) u w =
    by_cases (equal_triples u e.0)
    (λ q. rw (choose_yes (within b c e.0) (e ∷ between b c k) (between b c k) (rw q at w)) (lookup_same e (between b c k) u q ∙ sym (lookup_same e k u q)))
    (λ n. choose_elim (λ (r : Kept). lookup r u ≡ lookup (e ∷ k) u) (within b c e.0)
    (λ _. lookup_other e (between b c k) u n ∙ inside b c k u w ∙ sym (lookup_other e k u n))
    (λ _. inside b c k u w ∙ sym (lookup_other e k u n)))

pub outside : (b c : Triple) (k : Kept) (u : Triple) → ¬ Within b c u → lookup (between b c k) u ≡ 0
unfolding between
outside b c [] u w = lookup_nil u
outside b c (e ∷ k) u w =
    choose_elim (λ (r : Kept). lookup r u ≡ 0) (within b c e.0)
    (λ i. lookup_other e (between b c k) u (λ q. w (rw q i)) ∙ outside b c k u w)
    (λ _. outside b c k u w)

-- ---- one triple after the others

abbrev pub Under : Triple → Kept → Type 0
Under t [] = Unit {0}
Under t (e ∷ k) = Less e.0 t × Under t k

pub between_under : (b c : Triple) (k : Kept) → Under c (between b c k)
unfolding between
between_under b c [] = tt
between_under b c (e ∷ k) = choose_elim (Under c) (within b c e.0) (λ w. (w.1, between_under b c k)) (λ _. between_under b c k)

above_last : (v t : Triple) (n : ℕ) (k : Kept) → KeptAbove v k → Less v t → Under t k → 0 < n → KeptAbove v (k ++ (t, n) ∷ [])
above_last v t n [] a l u h = (l, h, tt)
above_last v t n (e ∷ k) a l u h = (a.0, a.1, above_last e.0 t n k a.2 u.0 u.1 h)

counts_last : (t : Triple) (n : ℕ) (k : Kept) → Counts k → Under t k → 0 < n → Counts (k ++ (t, n) ∷ [])
counts_last t n [] a u h = (h, tt)
counts_last t n (e ∷ k) a u h = (a.0, above_last e.0 t n k a.1 u.0 u.1 h)

last_same : (t : Triple) (n : ℕ) (k : Kept) (v : Triple) → Under t k → v ≡ t → lookup (k ++ (t, n) ∷ []) v ≡ n
last_same t n [] v u q = lookup_same (t, n) [] v q
last_same t n (e ∷ k) v u q = lookup_other e (k ++ (t, n) ∷ []) v (λ p. less_ne u.0 (sym p ∙ q)) ∙ last_same t n k v u.1 q

last_other : (t : Triple) (n : ℕ) (k : Kept) (v : Triple) → ¬ (v ≡ t) → lookup (k ++ (t, n) ∷ []) v ≡ lookup k v
last_other t n [] v m = lookup_other (t, n) [] v m
last_other t n (e ∷ k) v m =
    by_cases (equal_triples v e.0)
    (λ q. lookup_same e (k ++ (t, n) ∷ []) v q ∙ sym (lookup_same e k v q))
    (λ p. lookup_other e (k ++ (t, n) ∷ []) v p ∙ last_other t n k v m ∙ sym (lookup_other e k v p))

-- ---- the laws

pub between_none : (b : Triple) (k : Kept) → between b b k ≡ []
unfolding between
between_none b [] = refl
between_none b (e ∷ k) = choose_elim (λ (r : Kept). r ≡ []) (within b b e.0) (λ w. absurd (w.0 w.1)) (λ _. between_none b k)

-- nothing stands from c on below d
pub between-skip : (b c d : Triple) (k : Kept) → Counts k → ¬ Less d c → ((u : Triple) → ¬ Less u c → Less u d → lookup k u ≡ 0) → between b d k ≡ between b c k
between-skip b c d k a le none =
    kept_ext (between b d k) (between b c k) (between_counts b d k a) (between_counts b c k a)
    (λ u. by_cases (within b d u)
    (λ w. by_cases (less_than u c)
    (λ l. inside b d k u w ∙ sym (inside b c k u (w.0, l)))
    (λ n. inside b d k u w ∙ none u n w.1 ∙ sym (outside b c k u (λ z. n z.1))))
    (λ n. outside b d k u n ∙ sym (outside b c k u (λ z. n (z.0, up_to u z)))))
  where
    up_to : (u : Triple) → Within b c u → Less u d
    up_to u z = elim (compare_triples u d) [ less h ↦ h | same e ↦ absurd (le (rw e at z.1)) | more h ↦ absurd (le (less_trans h z.1)) ]

-- t with its count, and nothing more below c
pub between_more : (b t c : Triple) (n : ℕ) (k : Kept) → Counts k → ¬ Less t b → Less t c → ((u : Triple) → Less t u → Less u c → lookup k u ≡ 0) → lookup k t ≡ n → 0 < n → between b c k ≡ between b t k ++ (t, n) ∷ []
between_more b t c n k a le lt none here pos =
    kept_ext (between b c k) (between b t k ++ (t, n) ∷ []) (between_counts b c k a) (counts_last t n (between b t k) (between_counts b t k a) (between_under b t k) pos)
    (λ u. by_cases (equal_triples u t)
    (λ q. inside b c k u (rw q (le, lt)) ∙ (ap (lookup k) q ∙ here) ∙ sym (last_same t n (between b t k) u (between_under b t k) q))
    (λ m. other u m ∙ sym (last_other t n (between b t k) u m)))
  where
    other : (u : Triple) → ¬ (u ≡ t) → lookup (between b c k) u ≡ lookup (between b t k) u
    other u m =
        elim (compare_triples u t) [
          | less h ↦ by_cases (less_than u b)
              (λ l. outside b c k u (λ z. z.0 l) ∙ sym (outside b t k u (λ z. z.0 l)))
              (λ l. inside b c k u (l, less_trans h lt) ∙ sym (inside b t k u (l, h)))
          | same e ↦ absurd (m e)
          | more h ↦ by_cases (less_than u c)
              (λ l. inside b c k u ((λ z. le (less_trans h z)), l) ∙ none u h l ∙ sym (outside b t k u (λ z. less_irrefl (less_trans h z.1))))
              (λ l. outside b c k u (λ z. l z.1) ∙ sym (outside b t k u (λ z. less_irrefl (less_trans h z.1))))
        ]
