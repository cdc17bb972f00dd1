-- Facts put as they are: the part of the kept facts that only explicit facts support. Assumes nothing.
use mathlib.Core.Path.{◌≡◌, refl, sym, ap, ◌∙◌}
use mathlib.Core.List.{List}
use mathlib.Core.Logic.{by_cases}
use Prim.Native.Nat.{ℕ, zero, suc, ◌+◌, ◌-◌, ◌≤◌, ◌<◌}
use native.Mathlib.Omega.{arith}
use native.Mathlib.Decide.{dec_lt, ℕ_discrete}
use borrow.Author.Tests.{eq-eqb, ne_eqb}
use Rattle.spec.specs.declared.Triple.{Triple}
use Rattle.spec.specs.Terms.{triple}
use Rattle.spec.specs.inside.Comparison.{Less, by_subject, by_property, by_object, triple_eq, equal_triples}
use Rattle.spec.proofs.Order.{less_ne, of_property, of_object}
use Rattle.spec.specs.Tables.{row_at}
use Rattle.spec.specs.Saturation.{Kept}
use Rattle.spec.specs.inside.Counts.{KeptAbove, Counts, lookup}
use Rattle.spec.proofs.Kept.{lookup_nil, lookup_same, lookup_other, kept_ext}
use Rattle.saturate_schema.specs.inside.Compiled.{subject_at, property_at, object_at}
use Rattle.saturate_schema.proofs.Tables.{row-subject, row_property, row-object}
use Rattle.saturate_merge.specs.inside.Between.{Within, within, between}
use Rattle.saturate_merge.proofs.Between.{between_counts, inside, outside}
use Rattle.saturate_blocks.specs.inside.Sums.{sum_from}
use Rattle.saturate_blocks.specs.inside.Blocks.{same_at, OneSubject}
use Rattle.saturate_blocks.specs.inside.Plain.{ones}
use Rattle.saturate_counts.specs.inside.Prepared.{Facts}
use Rattle.saturate_subject.specs.inside.Rows.{Of}
use Rattle.saturate_blocks.proofs.Ranges.{from_zero}

-- ---- the facts of one subject

-- They are ordered by property and object.
pub one_subject : (f : List ℕ) (n x i e : ℕ) → Facts f n → e ≤ n → Of f x i e → OneSubject f i e
one_subject f n x i e g le s =
    record {
      climb = λ y l u. property-order y (y + 1) (g.ascend y (y + 1) (omega arith) (omega arith)) (same y l u);
      rise = λ y l u q. object-order y (y + 1) (g.ascend y (y + 1) (omega arith) (omega arith)) (same y l u) (row_property f y ∙ q ∙ sym (row_property f (y + 1)));
      small = λ y l u. g.object_small y (omega arith);
    }
  where
    same : (y : ℕ) → i ≤ y → y + 1 < e → (row_at f y).subject ≡ (row_at f (y + 1)).subject
    same y l u = row-subject f y ∙ s y l (omega arith) ∙ sym (s (y + 1) (omega arith) u) ∙ sym (row-subject f (y + 1))

    property-order : (y z : ℕ) → Less (row_at f y) (row_at f z) → (row_at f y).subject ≡ (row_at f z).subject → property_at f y ≤ property_at f z
    property-order y z (by_subject h) e = absurd (omega arith)
    property-order y z (by_property a h) e = omega (arith, row_property f y, row_property f z)
    property-order y z (by_object a b h) e = omega (arith, row_property f y, row_property f z)

    object-order : (y z : ℕ) → Less (row_at f y) (row_at f z) → (row_at f y).subject ≡ (row_at f z).subject → (row_at f y).property ≡ (row_at f z).property → object_at f y < object_at f z
    object-order y z (by_subject h) e q = absurd (omega arith)
    object-order y z (by_property a h) e q = absurd (omega arith)
    object-order y z (by_object a b h) e q = omega (arith, row-object f y, row-object f z)

-- ---- facts as rows

module _ (f : List ℕ) (n x : ℕ) (g : Facts f n) where
  ones_above : (t : Triple) (a k : ℕ) → a + k ≤ n → (0 < k → Less t (row_at f a)) → KeptAbove t (ones f a k)
  unfolding ones
  ones_above t a zero le h = tt
  ones_above t a (suc k) le h = (h (omega arith), omega arith, ones_above (row_at f a) (a + 1) k (omega arith) (λ p. g.ascend a (a + 1) (omega arith) (omega arith)))

  ones_counts : (a k : ℕ) → a + k ≤ n → Counts (ones f a k)
  unfolding ones
  ones_counts a zero le = tt
  ones_counts a (suc k) le = (omega arith, ones_above (row_at f a) (a + 1) k (omega arith) (λ p. g.ascend a (a + 1) (omega arith) (omega arith)))

  same_yes : (p o y : ℕ) → property_at f y ≡ p → object_at f y ≡ o → same_at f p o y ≡ 1
  unfolding same_at
  same_yes p o y a b = rw (eq-eqb (property_at f y) p a, eq-eqb (object_at f y) o b)

  pub same_property : (p o y : ℕ) → ¬ (property_at f y ≡ p) → same_at f p o y ≡ 0
  unfolding same_at
  same_property p o y a = rw (ne_eqb (property_at f y) p a)

  same_object : (p o y : ℕ) → property_at f y ≡ p → ¬ (object_at f y ≡ o) → same_at f p o y ≡ 0
  unfolding same_at
  same_object p o y a b = rw (eq-eqb (property_at f y) p a, ne_eqb (object_at f y) o b)

  same_no : (p o y : ℕ) → subject_at f y ≡ x → ¬ (triple x p o ≡ row_at f y) → same_at f p o y ≡ 0
  same_no p o y s k =
      by_cases (ℕ_discrete (property_at f y) p)
      (λ a. same_object p o y a (λ b. k (triple_eq (triple x p o) (row_at f y) (sym (row-subject f y ∙ s)) (sym (row_property f y ∙ a)) (sym (row-object f y ∙ b)))))
      (λ a. same_property p o y a)

  -- The support of a row among them.
  ones-lookup : (p o a k : ℕ) → a + k ≤ n → Of f x a (a + k) → lookup (ones f a k) (triple x p o) ≡ sum_from (same_at f p o) a k
  unfolding ones sum_from
  ones-lookup p o a zero le s = lookup_nil (triple x p o)
  ones-lookup p o a (suc k) le s =
      by_cases (equal_triples (triple x p o) (row_at f a))
      (λ e. let z : sum_from (same_at f p o) (a + 1) k ≡ 0 = from_zero (same_at f p o) (a + 1) k (λ y l u. same_no p o y (s y (omega arith) (omega arith)) (λ q. less_ne (g.ascend a y (omega arith) (omega arith)) (sym e ∙ q))) in
      omega (arith, lookup_same (row_at f a, 1) (ones f (a + 1) k) (triple x p o) e, same_yes p o a (sym (row_property f a) ∙ sym (of_property e)) (sym (row-object f a) ∙ sym (of_object e))))
      (λ d. omega (arith, lookup_other (row_at f a, 1) (ones f (a + 1) k) (triple x p o) d, same_no p o a (s a (omega arith) (omega arith)) d, ones-lookup p o (a + 1) k (omega arith) (λ y l u. s y (omega arith) (omega arith))))

  ones_absent : (u : Triple) (a k : ℕ) → ((y : ℕ) → a ≤ y → y < a + k → ¬ (u ≡ row_at f y)) → lookup (ones f a k) u ≡ 0
  unfolding ones
  ones_absent u a zero h = lookup_nil u
  ones_absent u a (suc k) h = lookup_other (row_at f a, 1) (ones f (a + 1) k) u (h a (omega arith) (omega arith)) ∙ ones_absent u (a + 1) k (λ y l q. h y (omega arith) (omega arith))

-- A row between x v 0 and x w 0.
pub record PropertyWithin (x v w : ℕ) (u : Triple) : Type 0 where
  pub is : u ≡ triple x u.property u.object
  pub low : v ≤ u.property
  pub high : u.property < w

pub property-within : (x v w : ℕ) (u : Triple) → ¬ Less u (triple x v 0) → Less u (triple x w 0) → PropertyWithin x v w u
property-within x v w u n (by_subject h) = absurd (n (by_subject h))
property-within x v w u n (by_property e h) = record { is = triple_eq u (triple x u.property u.object) e refl refl; low = by_cases (dec_lt u.property v) (λ l. absurd (n (by_property e l))) (λ l. omega arith); high = h }
property-within x v w u n (by_object e q h) = absurd (omega arith)

pub not_before : (x v p o : ℕ) → v ≤ p → ¬ Less (triple x p o) (triple x v 0)
not_before x v p o l (by_subject h) = omega arith
not_before x v p o l (by_property e h) = omega arith
not_before x v p o l (by_object e q h) = omega arith

-- The part of K between two properties, where only the facts q .. z support its rows.
pub plain_part : (K : Kept) → Counts K → (f : List ℕ) (n x v w q z : ℕ) → Facts f n → q ≤ z → z ≤ n → Of f x q z → ((y : ℕ) → q ≤ y → y < z → v ≤ property_at f y) → ((y : ℕ) → q ≤ y → y < z → property_at f y < w)
    → ((p o : ℕ) → v ≤ p → p < w → lookup K (triple x p o) ≡ sum_from (same_at f p o) q (z - q)) → between (triple x v 0) (triple x w 0) K ≡ ones f q (z - q)
plain_part K a f n x v w q z g qz zn s lo hi t =
    kept_ext (between (triple x v 0) (triple x w 0) K) (ones f q (z - q)) (between_counts (triple x v 0) (triple x w 0) K a) (ones_counts f n x g q (z - q) (omega arith))
    (λ u. by_cases (within (triple x v 0) (triple x w 0) u)
    (λ h. let r = property-within x v w u h.0 h.1 in
    inside (triple x v 0) (triple x w 0) K u h ∙ (ap (lookup K) r.is ∙ t u.property u.object r.low r.high ∙ sym (ones-lookup f n x g u.property u.object q (z - q) (omega arith) (λ y l h. s y l (omega arith)))) ∙ ap (lookup (ones f q (z - q))) (sym r.is))
    (λ h. outside (triple x v 0) (triple x w 0) K u h ∙ sym (ones_absent f n x g u q (z - q) (λ y l k e. h (rw e (row_within y l (omega arith)))))))
  where
    row_within : (y : ℕ) → q ≤ y → y < z → Within (triple x v 0) (triple x w 0) (row_at f y)
    row_within y l u =
        let e : row_at f y ≡ triple x (property_at f y) (object_at f y) = triple_eq (row_at f y) (triple x (property_at f y) (object_at f y)) (row-subject f y ∙ s y l u) (row_property f y) (row-object f y) in
        rw e (not_before x v (property_at f y) (object_at f y) (lo y l u), by_property refl (hi y l u))
