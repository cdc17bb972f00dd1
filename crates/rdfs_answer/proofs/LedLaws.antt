-- What a word leads to, by the terms found for the example of its question. Assumes nothing.
use mathlib.Core.Path.{◌≡◌, refl, sym, ap, ◌∙◌}
use mathlib.Core.Bool.{Bool, true, false}
use mathlib.Core.List.Memᴰ
use mathlib.Core.List.{List, [], ◌∷◌, Memᴰ}
use mathlib.Core.Logic.{◌↔◌}
use Prim.Native.Nat.{ℕ, ◌+◌, ◌-◌, ◌<◌, ◌≤◌}
use native.Mathlib.Omega.{arith}
use lib.ListN.{length, get_or, take, drop}
use lib.Dec.{eqb, ltb}
use borrow.Author.Tests.{ltb-true, ltb-false, eqb-true, eqb-false, eq-eqb, ne_eqb}
use Rattle.std.specs.List.{IsAnyAnswer}
use Rattle.std.proofs.lemmas.List.{get_or-take, get_or-drop, length-take, length-drop}
use Rattle.spec.specs.declared.Triple.{Triple}
use Rattle.spec.specs.Tables.{count, first_rows, rows}
use Rattle.spec.specs.computed.Carried.{object_classes}
use Rattle.rdfs_reach.specs.inside.Marks.{Within}
use Rattle.table.specs.inside.Bounds.{Tells}
use Rattle.table.proofs.SearchLaws.{tells_true, tells_false}
use Rattle.rdfs_derive.specs.inside.Conclusions.{Concluded}
use Rattle.rdfs_relevance.specs.inside.Targets.{example, some, led_to, Led}

-- ---- what a test tells

-- A test of one tells of the other.
pub tells_iff : {P Q : Type 0} {r : Bool} → P ↔ Q → Tells r P → Tells r Q
tells_iff f t = record { if_true = λ e. f.0 (t.if_true e); if_false = λ e q. t.if_false e (f.1 q) }

-- ---- a term among those found

-- What the search through them tells.
pub found_among : (found : List ℕ) (a b x : ℕ) (r : Bool) → a ≤ b → b ≤ length found → IsAnyAnswer (λ y t. eqb y x ≡ t) (take (b - a) (drop a found)) r → Tells r (Within found a b x)
found_among found a b x r p q h = told r h
  where
    among : (i : ℕ) → i < b - a → get_or (take (b - a) (drop a found)) i 0 ≡ get_or found (a + i) 0
    among i l = get_or-take (b - a) (drop a found) i 0 l ∙ get_or-drop a found i 0

    long : length (take (b - a) (drop a found)) ≡ b - a
    long = simp (length-take, length-drop) (omega arith)

    told : (r : Bool) → IsAnyAnswer (λ y t. eqb y x ≡ t) (take (b - a) (drop a found)) r → Tells r (Within found a b x)
    told true (k, l, e) = tells_true (record { at = a + k; low = omega arith; high = omega (arith, long); is = sym (among k (omega (arith, long))) ∙ eqb-true _ x (e 0) })
    told false n = tells_false (λ w.
        let at : a + (w.at - a) ≡ w.at = omega (arith, w.low) in
        let l : w.at - a < b - a = omega (arith, w.low, w.high) in
        eqb-false _ x (n (w.at - a) 0 (omega arith) (omega (arith, long))) (among (w.at - a) l ∙ (ap (λ (i : ℕ). get_or found i 0) at ∙ w.is)))

-- ---- the answer by the terms found

first : (x : ℕ) (xs : List ℕ) → Memᴰ x (x ∷ xs)
first x xs = Memᴰ.head refl

-- 0 is one of `some` where there are any.
pub some-any : (xs : List ℕ) → Memᴰ 0 (some xs) ↔ (¬ (xs ≡ []))
unfolding some
some-any [] = (λ i. absurd (Memᴰ.not-nil i), λ n. absurd (n refl))
some-any (x ∷ xs) = (λ i e. Memᴰ.not-nil (rw e at (first x xs)), λ n. Memᴰ.head refl)

module _ (st : List ℕ) (m asked w target : ℕ) (f : Triple) (found : List ℕ) (a b e : ℕ) (q : m ≡ count st) (g : f ≡ example asked w)
    (k : Concluded (first_rows m (drop 1 st)) m f found a b e) {r : Bool} where
  pub led_property : asked ≡ 1 → Tells r (Within found 0 a target) → Tells r (Led (rows st) asked w target)
  unfolding led_to rows
  led_property h t = rw (← q, ← g, eq-eqb asked 1 h) (tells_iff (k.as_property target) t)

  pub led-object : asked ≡ 4 → Tells r (Within found b e target) → Tells r (Led (rows st) asked w target)
  unfolding led_to rows
  led-object h t = rw (← q, ← g, ne_eqb asked 1 (λ z. omega arith), eq-eqb asked 4 h) (tells_iff (k.as_object target) t)

  pub led-subject : ¬ (asked ≡ 1) → ¬ (asked ≡ 4) → ¬ (asked ≡ 5) → Tells r (Within found a b target) → Tells r (Led (rows st) asked w target)
  unfolding led_to rows
  led-subject n o p t = rw (← q, ← g, ne_eqb asked 1 n, ne_eqb asked 4 o, ne_eqb asked 5 p) (tells_iff (k.as_subject target) t)

none_list : (ys : List ℕ) → ((c : ℕ) → Memᴰ c ys → ⊥) → ys ≡ []
none_list [] n = refl
none_list (y ∷ ys) n = absurd (n y (Memᴰ.head refl))

-- There are classes of the object where the places of these are not empty.
any_found : {found xs : List ℕ} {b e : ℕ} → ((c : ℕ) → Within found b e c ↔ Memᴰ c xs) → Tells (ltb b e) (¬ (xs ≡ []))
any_found {found} {xs} {b} {e} h = record {
  if_true = λ l z. Memᴰ.not-nil (rw z at ((h (get_or found b 0)).0 (record { at = b; low = omega arith; high = ltb-true b e l; is = refl })));
  if_false = λ l n. n (none_list xs (λ c i. let v = (h c).1 i in omega (arith, v.low, v.high, ltb-false b e l)));
}

pub led-any : (st : List ℕ) (m asked w target : ℕ) (f : Triple) (found : List ℕ) (a b e : ℕ) → m ≡ count st → f ≡ example asked w → Concluded (first_rows m (drop 1 st)) m f found a b e →
    asked ≡ 5 → target ≡ 0 → Tells (ltb b e) (Led (rows st) asked w target)
unfolding led_to rows
led-any st m asked w target f found a b e q g k h z =
    let i = some-any (object_classes (first_rows m (drop 1 st)) f) in
    rw (← q, ← g, ne_eqb asked 1 (λ z. omega arith), ne_eqb asked 4 (λ z. omega arith), eq-eqb asked 5 h, z) (tells_iff (i.1, i.0) (any_found k.as_object))
