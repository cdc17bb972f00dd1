-- Laws of the order of triples and of branches on a decision. Assumes nothing.
use mathlib.Core.Path.{◌≡◌, refl, ap}
use native.Mathlib.Omega.{arith}
use Rattle.spec.specs.declared.Triple.{Triple}
use Rattle.spec.specs.inside.Comparison.{Less, by_subject, by_property, by_object, less_irrefl, Trichotomy, less, same, more, choose, by_order}

-- The order is transitive.
pub less_trans : {t u v : Triple} → Less t u → Less u v → Less t v
less_trans (by_subject a) (by_subject b) = by_subject (omega arith)
less_trans (by_subject a) (by_property b c) = by_subject (omega arith)
less_trans (by_subject a) (by_object b c d) = by_subject (omega arith)
less_trans (by_property e a) (by_subject b) = by_subject (omega arith)
less_trans (by_property e a) (by_property b c) = by_property (omega arith) (omega arith)
less_trans (by_property e a) (by_object b c d) = by_property (omega arith) (omega arith)
less_trans (by_object e f a) (by_subject b) = by_subject (omega arith)
less_trans (by_object e f a) (by_property b c) = by_property (omega arith) (omega arith)
less_trans (by_object e f a) (by_object b c d) = by_object (omega arith) (omega arith) (omega arith)

pub less_ne : {t u : Triple} → Less t u → ¬ (t ≡ u)
less_ne h e = less_irrefl (rw e at h)

pub less_asym : {t u : Triple} → Less t u → Less u t → ⊥
less_asym h k = less_irrefl (less_trans h k)

-- Equal triples have equal parts.
pub of_subject : {t u : Triple} → t ≡ u → t.subject ≡ u.subject
of_subject e = ap (λ (v : Triple). v.subject) e

pub of_property : {t u : Triple} → t ≡ u → t.property ≡ u.property
of_property e = ap (λ (v : Triple). v.property) e

pub of_object : {t u : Triple} → t ≡ u → t.object ≡ u.object
of_object e = ap (λ (v : Triple). v.object) e

-- What holds of both arms holds of a branch.
pub choose_elim : {P A : Type 0} (Q : A → Type 0) (d : Dec P) {x y : A} → (P → Q x) → (¬ P → Q y) → Q (choose d x y)
unfolding choose
choose_elim Q (yes p) f g = f p
choose_elim Q (no h) f g = g h

pub choose_yes : {P A : Type 0} (d : Dec P) (x y : A) → P → choose d x y ≡ x
choose_yes d x y p = choose_elim (λ z. z ≡ x) d (λ _. refl) (λ n. absurd (n p))

pub choose_no : {P A : Type 0} (d : Dec P) (x y : A) → ¬ P → choose d x y ≡ y
choose_no d x y n = choose_elim (λ z. z ≡ y) d (λ p. absurd (n p)) (λ _. refl)

pub by_order_elim : {t u : Triple} {A : Type 0} (Q : A → Type 0) (d : Trichotomy t u) {x y z : A} → (Less t u → Q x) → (t ≡ u → Q y) → (Less u t → Q z) → Q (by_order d x y z)
unfolding by_order
by_order_elim Q (less h) f g k = f h
by_order_elim Q (same e) f g k = g e
by_order_elim Q (more h) f g k = k h

-- A comparison whose outcome is known.
pub by_order-less : {t u : Triple} {A : Type 0} (d : Trichotomy t u) (x y z : A) → Less t u → by_order d x y z ≡ x
by_order-less d x y z h = by_order_elim (λ w. w ≡ x) d (λ _. refl) (λ e. absurd (less_ne h e)) (λ k. absurd (less_asym h k))

pub by_order_same : {t u : Triple} {A : Type 0} (d : Trichotomy t u) (x y z : A) → t ≡ u → by_order d x y z ≡ y
by_order_same d x y z e = by_order_elim (λ w. w ≡ y) d (λ h. absurd (less_ne h e)) (λ _. refl) (λ k. absurd (less_irrefl (rw e at k)))

pub by_order_more : {t u : Triple} {A : Type 0} (d : Trichotomy t u) (x y z : A) → Less u t → by_order d x y z ≡ z
by_order_more d x y z k = by_order_elim (λ w. w ≡ z) d (λ h. absurd (less_asym h k)) (λ e. absurd (less_irrefl (rw e at k))) (λ _. refl)
