-- What the tests of triples decide: which is less, whether they are the same, and whether one is among some. Definitions branch on the tests,
-- proofs on what they decide. Assumes nothing.
use mathlib.Core.Path.{◌≡◌, sym, ◌∙◌}
use mathlib.Core.Bool.{true, false, cond}
use mathlib.Core.Logic.{by_cases, ◌↔◌}
use mathlib.Core.List.{List, Memᴰ}
use Prim.Native.Nat.{◌≤◌}
use native.Mathlib.Omega.{arith}
use borrow.Author.Tests.{lt-ltb, le-ltb, eq-eqb, ne_eqb}
use Rattle.spec.specs.declared.Triple.{Triple}
use Rattle.spec.specs.Rows.{less, words}
use Rattle.spec.specs.Order.{is_less, is_same, is_in}
use Rattle.spec.specs.inside.Comparison.{Less, by_subject, by_property, by_object, Trichotomy, less as is-less, same as is-same, more as is-more, compare_triples, equal_triples}
use Rattle.spec.proofs.Lists.{true-not_false, cond_elim, by_test, any_in, any_out}
use Rattle.spec.proofs.Order.{of_subject, of_property, of_object}
use Rattle.spec.proofs.RowOrder as rows

-- ---- the order

-- A lesser triple has lesser words,
pub less-is_less : {t u : Triple} → Less t u → is_less t u ≡ true
unfolding less
less-is_less {t} {u} (by_subject h) = rw (lt-ltb t.subject u.subject h)
less-is_less {t} {u} (by_property e h) =
    let a : u.subject ≤ t.subject = omega arith in
    let b : t.subject ≤ u.subject = omega arith in
    rw (le-ltb t.subject u.subject a, le-ltb u.subject t.subject b, lt-ltb t.property u.property h)
less-is_less {t} {u} (by_object e f h) =
    let a : u.subject ≤ t.subject = omega arith in
    let b : t.subject ≤ u.subject = omega arith in
    let c : u.property ≤ t.property = omega arith in
    let d : t.property ≤ u.property = omega arith in
    rw (le-ltb t.subject u.subject a, le-ltb u.subject t.subject b, le-ltb t.property u.property c, le-ltb u.property t.property d, lt-ltb t.object u.object h)

-- and any other triple has not.
pub more-is_less : {t u : Triple} → Less u t → is_less t u ≡ false
more-is_less {t} {u} l = rows.less_asym (words u) (words t) (less-is_less l)

pub same-is_less : {t u : Triple} → t ≡ u → is_less t u ≡ false
same-is_less {t} {u} e = rw e (rows.less_irrefl (words u))

-- So the test decides the order.
pub is_less_true : (t u : Triple) → is_less t u ≡ true → Less t u
is_less_true t u h = by (compare_triples t u)
  where
    by : Trichotomy t u → Less t u
    by (is-less l) = l
    by (is-same e) = absurd (true-not_false (sym h ∙ same-is_less e))
    by (is-more l) = absurd (true-not_false (sym h ∙ more-is_less l))

pub is_less_false : (t u : Triple) → ¬ Less t u → is_less t u ≡ false
is_less_false t u n = by_test (is_less t u) (λ h. absurd (n (is_less_true t u h))) (λ h. h)

-- ---- sameness

-- Equal triples are the same,
pub is_same_yes : (t u : Triple) → t ≡ u → is_same t u ≡ true
unfolding is_same
is_same_yes t u e = rw (eq-eqb t.subject u.subject (of_subject e), eq-eqb t.property u.property (of_property e), eq-eqb t.object u.object (of_object e))

-- and no others are.
less-is_same : {t u : Triple} → Less t u → is_same t u ≡ false
unfolding is_same
less-is_same {t} {u} (by_subject h) = rw (ne_eqb t.subject u.subject (λ e. omega arith))
less-is_same {t} {u} (by_property e h) = rw (eq-eqb t.subject u.subject e, ne_eqb t.property u.property (λ q. omega arith))
less-is_same {t} {u} (by_object e f h) = rw (eq-eqb t.subject u.subject e, eq-eqb t.property u.property f, ne_eqb t.object u.object (λ q. omega arith))

more-is_same : {t u : Triple} → Less u t → is_same t u ≡ false
unfolding is_same
more-is_same {t} {u} (by_subject h) = rw (ne_eqb t.subject u.subject (λ e. omega arith))
more-is_same {t} {u} (by_property e h) = rw (eq-eqb t.subject u.subject (sym e), ne_eqb t.property u.property (λ q. omega arith))
more-is_same {t} {u} (by_object e f h) = rw (eq-eqb t.subject u.subject (sym e), eq-eqb t.property u.property (sym f), ne_eqb t.object u.object (λ q. omega arith))

pub is_same_no : (t u : Triple) → ¬ (t ≡ u) → is_same t u ≡ false
is_same_no t u n = by (compare_triples t u)
  where
    by : Trichotomy t u → is_same t u ≡ false
    by (is-less l) = less-is_same l
    by (is-same e) = absurd (n e)
    by (is-more l) = more-is_same l

pub is_same_true : (t u : Triple) → is_same t u ≡ true → t ≡ u
is_same_true t u h = by_cases (equal_triples t u) (λ e. e) (λ n. absurd (true-not_false (sym h ∙ is_same_no t u n)))

-- ---- branches on the tests

-- What holds of both arms holds of a branch on sameness.
pub same_elim : {A : Type 0} (Q : A → Type 0) (t u : Triple) {x y : A} → (t ≡ u → Q x) → (¬ (t ≡ u) → Q y) → Q (cond (is_same t u) x y)
same_elim Q t u f g = cond_elim Q (is_same t u) (λ h. f (is_same_true t u h)) (λ h. g (λ e. true-not_false (sym (is_same_yes t u e) ∙ h)))

-- A branch of which the outcome is known.
pub same_yes : {A : Type 0} (t u : Triple) (x y : A) → t ≡ u → cond (is_same t u) x y ≡ x
same_yes t u x y e = rw (is_same_yes t u e)

pub same_no : {A : Type 0} (t u : Triple) (x y : A) → ¬ (t ≡ u) → cond (is_same t u) x y ≡ y
same_no t u x y n = rw (is_same_no t u n)

-- A branch on order, then on sameness, whose outcome is known.
pub order-less : {A : Type 0} (t u : Triple) (x y z : A) → Less t u → cond (is_less t u) x (cond (is_same t u) y z) ≡ x
order-less t u x y z l = rw (less-is_less l)

pub order_same : {A : Type 0} (t u : Triple) (x y z : A) → t ≡ u → cond (is_less t u) x (cond (is_same t u) y z) ≡ y
order_same t u x y z e = rw (same-is_less e, is_same_yes t u e)

pub order_more : {A : Type 0} (t u : Triple) (x y z : A) → Less u t → cond (is_less t u) x (cond (is_same t u) y z) ≡ z
order_more t u x y z l = rw (more-is_less l, more-is_same l)

-- What holds of the three arms holds of such a branch.
pub order_elim : {A : Type 0} (Q : A → Type 0) (t u : Triple) {x y z : A} → (Less t u → Q x) → (t ≡ u → Q y) → (Less u t → Q z) → Q (cond (is_less t u) x (cond (is_same t u) y z))
order_elim Q t u {x} {y} {z} f g k = by (compare_triples t u)
  where
    by : Trichotomy t u → Q (cond (is_less t u) x (cond (is_same t u) y z))
    by (is-less l) = rw (less-is_less l) (f l)
    by (is-same e) = rw (same-is_less e, is_same_yes t u e) (g e)
    by (is-more l) = rw (more-is_less l, more-is_same l) (k l)

-- ---- membership

-- The test decides whether a triple is one of some.
pub is_in_iff : (t : Triple) (F : List Triple) → (is_in t F ≡ true) ↔ Memᴰ t F
is_in_iff t F = (any_out (is_same t) t (is_same_yes t) (is_same_true t) F, any_in (is_same t) t (is_same_yes t) (is_same_true t) F)

pub is_in_no : (t : Triple) (F : List Triple) → ¬ Memᴰ t F → is_in t F ≡ false
is_in_no t F n = by_test (is_in t F) (λ h. absurd (n ((is_in_iff t F).0 h))) (λ h. h)

-- What holds of both arms holds of a branch on membership.
pub is_in_elim : {A : Type 0} (Q : A → Type 0) (t : Triple) (F : List Triple) {x y : A} → (Memᴰ t F → Q x) → (¬ Memᴰ t F → Q y) → Q (cond (is_in t F) x y)
is_in_elim Q t F f g = cond_elim Q (is_in t F) (λ h. f ((is_in_iff t F).0 h)) (λ h. g (λ m. true-not_false (sym ((is_in_iff t F).1 m) ∙ h)))
