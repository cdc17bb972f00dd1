-- The terms found are those that `conclusions` is made of. Assumes nothing.
use mathlib.Core.Path.{◌≡◌, refl, sym, ap, ◌∙◌}
use mathlib.Core.Bool.{true, false, cond}
use mathlib.Core.List.Memᴰ
use mathlib.Core.List.{List, [], ◌∷◌, ◌++◌, Memᴰ}
use mathlib.Core.Logic.{⊎_elim, by_cases, ◌↔◌}
use Prim.Native.Nat.{ℕ, ◌+◌, ◌≤◌, ◌<◌}
use native.Mathlib.Decide.{dec_lt}
use native.Mathlib.Omega.{arith}
use lib.ListN.{length, get_or, drop, set}
use lib.Dec.{eqb}
use borrow.Author.Tests.{eq-eqb, ne_eqb}
use lib.Seq.{get_or-set_same, get_or-set_other}
use Rattle.spec.specs.declared.Triple.{Triple}
use Rattle.spec.specs.Terms.{type, sub_class_of, sub_property_of, domain, range, is_literal}
use Rattle.spec.specs.Tables.{first_rows}
use Rattle.spec.specs.Rules.{Reach}
use Rattle.spec.specs.inside.Entailment.{ReachFrom}
use Rattle.spec.specs.computed.Carried.{objects, properties, subject_classes, object_classes}
use Rattle.rdfs_reach.specs.inside.Marks.{Within, ObjectOf, ReachedFrom, Grown}
use Rattle.rdfs_classes.specs.inside.Listed.{Listed}
use Rattle.spec.proofs.Reach.{objects_iff}
use Rattle.spec.proofs.Carried.{properties_iff, subject_starts, subject_iff, object_iff}
use Rattle.rdfs_reach.proofs.WorkLaws.{within_kept, within_wider}

-- One equivalence after the other.
pub both : {A B C : Type 0} → A ↔ B → B ↔ C → A ↔ C
both f g = (λ a. g.0 (f.0 a), λ c. f.1 (g.1 c))

back : {A B : Type 0} → A ↔ B → B ↔ A
back f = (f.1, f.0)

-- ---- starts and subjects given as a list

module _ {st : List ℕ} {m k : ℕ} {Q : ℕ → Type 0} {xs : List ℕ} (h : (x : ℕ) → Q x ↔ Memᴰ x xs) where
  pub reached_list : (b : ℕ) → ReachedFrom st m k Q b ↔ ReachFrom (first_rows m (drop 1 st)) k xs b
  reached_list b = (
    λ r. record { start = r.start; listed = (h r.start).0 r.holds; path = r.path },
    λ r. record { start = r.start; holds = (h r.start).1 r.listed; path = r.path },
  )

  pub objects_list : (o : ℕ) → ObjectOf st m k Q o ↔ Memᴰ o (objects (first_rows m (drop 1 st)) k xs)
  objects_list o = (
    λ r. (objects_iff (first_rows m (drop 1 st)) k xs o).1 (record { start = r.subject; listed = (h r.subject).0 r.holds; stated = r.statement }),
    λ i. let r = (objects_iff (first_rows m (drop 1 st)) k xs o).0 i in record { subject = r.start; holds = (h r.start).1 r.listed; statement = r.stated },
  )

-- ---- places in found

-- Places below n hold what they held.
pub kept_iff : {found found' : List ℕ} {a b x : ℕ} (n : ℕ) → ((i : ℕ) → i < n → get_or found' i 0 ≡ get_or found i 0) → b ≤ n → Within found' a b x ↔ Within found a b x
kept_iff n h l = (within_kept n (λ i c. sym (h i c)) l, within_kept n h l)

-- Two parts side by side.
pub joined : {found xs ys : List ℕ} {a b c : ℕ} → a ≤ b → b ≤ c → ((x : ℕ) → Within found a b x ↔ Memᴰ x xs) → ((x : ℕ) → Within found b c x ↔ Memᴰ x ys) → (x : ℕ) → Within found a c x ↔ Memᴰ x (xs ++ ys)
joined {found} {xs} {ys} {a} {b} {c} p q f g x = (
  λ w. by_cases (dec_lt w.at b) (λ (l : w.at < b). Memᴰ.append_left ys ((f x).0 (record { at = w.at; low = w.low; high = l; is = w.is })))
      (λ l. Memᴰ.append_right xs ((g x).0 (record { at = w.at; low = omega arith; high = w.high; is = w.is }))),
  λ i. ⊎_elim (λ j. within_wider (omega arith) q ((f x).1 j)) (λ j. within_wider p (omega arith) ((g x).1 j)) (Memᴰ.append_cases xs i),
)

-- ---- the properties

-- A term set at n stands there alone.
one : (found : List ℕ) (n v x : ℕ) → n < length found → Within (set found n v) n (n + 1) x ↔ Memᴰ x (v ∷ [])
one found n v x l = (
  λ w.
      let q : w.at ≡ n = omega (arith, w.low, w.high) in
      let z : x ≡ v = sym w.is ∙ (ap (λ (i : ℕ). get_or (set found n v) i 0) q ∙ get_or-set_same found n v 0 l) in
      Memᴰ.head z,
  λ i. record { at = n; low = omega arith; high = omega arith; is = get_or-set_same found n v 0 l ∙ sym (Memᴰ.eq_of_singleton i) },
)

-- What is reached from one term.
reached_one : (S : List Triple) (k a b : ℕ) → ReachFrom S k (a ∷ []) b ↔ Reach S k a b
reached_one S k a b = (λ r. rw (Memᴰ.eq_of_singleton r.listed) at r.path, λ r. record { start = a; listed = Memᴰ.head refl; path = r })

pub listed-properties : (st : List ℕ) (m : ℕ) (f : Triple) (found found' : List ℕ) (r : ℕ) → 0 < length found →
    ((b : ℕ) → Within found' 0 r b ↔ ReachedFrom st m sub_property_of (Within (set found 0 f.property) 0 1) b) → Listed (properties (first_rows m (drop 1 st)) f) found 0 found' r
listed-properties st m f found found' r l h =
    let S : List Triple = first_rows m (drop 1 st) in
    record {
      grows = omega arith;
      kept = λ i c. absurd (omega arith);
      exact = λ q. both (h q) (both (reached_list (λ x. one found 0 f.property x l) q) (both (reached_one S sub_property_of f.property q) (back (properties_iff S f q))));
    }

-- ---- the type that a fact gives

pub listed-type : (f : Triple) (found : List ℕ) (n : ℕ) → n < length found → f.property ≡ type → Listed (cond (eqb f.property type) (f.object ∷ []) []) found n (set found n f.object) (n + 1)
listed-type f found n l e = record {
  grows = omega arith;
  kept = λ i c. get_or-set_other found n i f.object 0 (λ q. omega arith);
  exact = λ x. rw (eq-eqb f.property type e) (one found n f.object x l);
}

-- Nothing appended.
pub listed_none : (xs found : List ℕ) (n : ℕ) → ((x : ℕ) → Memᴰ x xs → ⊥) → Listed xs found n found n
listed_none xs found n h = record {
  grows = omega arith;
  kept = λ i c. refl;
  exact = λ x. (λ w. absurd (omega (arith, w.low, w.high)), λ i. absurd (h x i));
}

pub listed_untyped : (f : Triple) (found : List ℕ) (n : ℕ) → (f.property ≡ type → ⊥) → Listed (cond (eqb f.property type) (f.object ∷ []) []) found n found n
listed_untyped f found n d = listed_none _ found n (λ x. rw (ne_eqb f.property type d) Memᴰ.not-nil)

-- ---- the classes

module _ (st : List ℕ) (m : ℕ) (f : Triple) where
  abbrev S : List Triple
  S = first_rows m (drop 1 st)

  pub listed-subject : (used found found₁ found₂ found₃ used₂ used₃ : List ℕ) (n e d r : ℕ) →
      ((q : ℕ) → Within found 0 n q ↔ Memᴰ q (properties (first_rows m (drop 1 st)) f)) →
      Listed (cond (eqb f.property type) (f.object ∷ []) []) found n found₁ e →
      Grown st m domain used found₁ e used₂ found₂ d → ((o : ℕ) → Within found₂ e d o ↔ ObjectOf st m domain (Within found₁ 0 n) o) →
      Grown st m sub_class_of used₂ found₂ d used₃ found₃ r → ((b : ℕ) → Within found₃ n r b ↔ ReachedFrom st m sub_class_of (Within found₂ n d) b) →
      Listed (subject_classes (first_rows m (drop 1 st)) f) found n found₃ r
  listed-subject used found found₁ found₂ found₃ used₂ used₃ n e d r p t g x h y =
      let starts : (c : ℕ) → Within found₂ n d c ↔ Memᴰ c (subject_starts S f) =
      joined t.grows g.grows (λ c. both (kept_iff e g.kept (omega arith)) (t.exact c))
      (λ c. both (x c) (objects_list (λ q. both (kept_iff n t.kept (omega arith)) (p q)) c)) in
      record {
        grows = omega (arith, t.grows, g.grows, h.grows);
        kept = λ i l. h.kept i (omega (arith, t.grows, g.grows)) ∙ g.kept i (omega (arith, t.grows)) ∙ t.kept i l;
        exact = λ c. both (y c) (both (reached_list starts c) (back (subject_iff S f c)));
      }

  pub listed_object : (used found found₁ found₂ used₁ used₂ : List ℕ) (a n e r : ℕ) → a ≤ n →
      ((q : ℕ) → Within found 0 a q ↔ Memᴰ q (properties (first_rows m (drop 1 st)) f)) → is_literal f.object ≡ false →
      Grown st m range used found n used₁ found₁ e → ((o : ℕ) → Within found₁ n e o ↔ ObjectOf st m range (Within found 0 a) o) →
      Grown st m sub_class_of used₁ found₁ e used₂ found₂ r → ((b : ℕ) → Within found₂ n r b ↔ ReachedFrom st m sub_class_of (Within found₁ n e) b) →
      Listed (object_classes (first_rows m (drop 1 st)) f) found n found₂ r
  listed_object used found found₁ found₂ used₁ used₂ a n e r l p z g x h y = record {
    grows = omega (arith, g.grows, h.grows);
    kept = λ i c. h.kept i (omega (arith, g.grows)) ∙ g.kept i c;
    exact = λ c. both (y c) (both (reached_list (λ o. both (x o) (objects_list p o)) c) (λ w. (object_iff S f c).1 (z, w), λ i. ((object_iff S f c).0 i).1));
  }

  pub listed_literal : (found : List ℕ) (n : ℕ) → is_literal f.object ≡ true → Listed (object_classes (first_rows m (drop 1 st)) f) found n found n
  listed_literal found n z = listed_none _ found n (λ c i. let w = ((object_iff S f c).0 i).0 in let q : ◌≡◌ {A = ℕ} 0 1 = cc in omega arith)
