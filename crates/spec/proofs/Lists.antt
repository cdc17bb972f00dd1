-- Laws of lists and tests that the library lacks. Assumes nothing.
use mathlib.Core.Path.{◌≡◌, refl, sym, ap, ◌∙◌}
use mathlib.Core.Bool.{Bool, true, false, cond, ◌||◌}
use mathlib.Core.Logic.{◌⊎◌, inl, inr, ⊎_elim}
use mathlib.Core.List.Memᴰ
use mathlib.Core.List.{List, [], ◌∷◌, flat_map, Memᴰ}
use Prim.Native.Nat.{ℕ, zero, suc, ◌≤◌, ◌<◌}
use native.Mathlib.Omega.{arith}
use lib.ListN.{length}
use Rattle.spec.specs.Lists.{any, select}

-- True is not false.
pub true-not_false : true ≡ false → ⊥
true-not_false e = let z : ◌≡◌ {A = ℕ} 0 1 = cc in omega arith

-- What holds of both arms holds of a branch on a test.
pub cond_elim : {A : Type 0} (Q : A → Type 0) (b : Bool) {x y : A} → (b ≡ true → Q x) → (b ≡ false → Q y) → Q (cond b x y)
cond_elim Q true f g = f refl
cond_elim Q false f g = g refl

-- A test is true or false.
pub by_test : {C : Type 0} (b : Bool) → (b ≡ true → C) → (b ≡ false → C) → C
by_test true f g = f refl
by_test false f g = g refl

-- A disjunction that is true is true on a side.
pub or_cases : (a b : Bool) → (a || b) ≡ true → (a ≡ true) ⊎ (b ≡ true)
or_cases true b e = inl refl
or_cases false b e = inr e

-- ---- some element passes a test, and those that do

-- A test that x alone passes is passed in a list exactly if x is there.
module _ {A : Type 0} (test : A → Bool) (x : A) (passes : (y : A) → x ≡ y → test y ≡ true) (alone : (y : A) → test y ≡ true → x ≡ y) where
  pub any_in : (l : List A) → Memᴰ x l → any test l ≡ true
  unfolding any
  any_in [] m = absurd (Memᴰ.not-nil m)
  any_in (y ∷ l) m = ⊎_elim (λ e. rw (passes y e)) (λ j. by_test (test y) (λ e. rw e) (λ e. rw e (any_in l j))) (Memᴰ.cases_cons m)

  pub any_out : (l : List A) → any test l ≡ true → Memᴰ x l
  unfolding any
  any_out [] h = absurd (true-not_false (sym h))
  any_out (y ∷ l) h = by_test (test y) (λ e. Memᴰ.head (alone y e)) (λ e. Memᴰ.tail (any_out l (rw e at h)))

-- What is selected is there and passes the test, and back.
pub select_in : {A : Type 0} (test : A → Bool) {x : A} (l : List A) → Memᴰ x l → test x ≡ true → Memᴰ x (select test l)
unfolding select
select_in test [] m e = absurd (Memᴰ.not-nil m)
select_in test {x} (y ∷ l) m e =
    cond_elim (Memᴰ x) (test y)
    (λ _. ⊎_elim Memᴰ.head (λ j. Memᴰ.tail (select_in test l j e)) (Memᴰ.cases_cons m))
    (λ n. ⊎_elim (λ q. absurd (true-not_false (sym e ∙ ap test q ∙ n))) (λ j. select_in test l j e) (Memᴰ.cases_cons m))

pub select_out : {A : Type 0} (test : A → Bool) {x : A} (l : List A) → Memᴰ x (select test l) → Memᴰ x l × (test x ≡ true)
unfolding select
select_out test [] m = absurd (Memᴰ.not-nil m)
select_out test {x} (y ∷ l) m =
    cond_elim (λ r. Memᴰ x r → Memᴰ x (y ∷ l) × (test x ≡ true)) (test y)
    (λ e i. ⊎_elim (λ q. (Memᴰ.head q, ap test q ∙ e)) (λ j. let r = select_out test l j in (Memᴰ.tail r.0, r.1)) (Memᴰ.cases_cons i))
    (λ _ i. let r = select_out test l i in (Memᴰ.tail r.0, r.1))
    m

pub select-length : {A : Type 0} (test : A → Bool) (l : List A) → length (select test l) ≤ length l
unfolding select
select-length test [] = omega arith
select-length {A} test (y ∷ l) =
    cond_elim (λ (r : List A). length r ≤ suc (length l)) (test y) {x = y ∷ select test l} {y = select test l} (λ _. omega (arith, select-length test l)) (λ _. omega (arith, select-length test l))

-- ---- flat_map

-- An element of `flat_map f l` comes of an element of l.
pub record FlatMapped {A B : Type 0} (f : A → List B) (l : List A) (b : B) : Type 0 where
  pub from : A
  pub listed : Memᴰ from l
  pub gives : Memᴰ b (f from)

pub flat_map_out : {A B : Type 0} (f : A → List B) {b : B} (l : List A) → Memᴰ b (flat_map f l) → FlatMapped f l b
unfolding flat_map
flat_map_out f [] m = absurd (Memᴰ.not-nil m)
flat_map_out f (x ∷ l) m =
    ⊎_elim
    (λ i. record { from = x; listed = Memᴰ.head refl; gives = i })
    (λ i. let r = flat_map_out f l i in record { from = r.from; listed = Memᴰ.tail r.listed; gives = r.gives })
    (Memᴰ.append_cases (f x) m)

pub flat_map_in : {A B : Type 0} (f : A → List B) {a : A} {b : B} (l : List A) → Memᴰ a l → Memᴰ b (f a) → Memᴰ b (flat_map f l)
unfolding flat_map
flat_map_in f [] m i = absurd (Memᴰ.not-nil m)
flat_map_in f {a} {b} (x ∷ l) m i =
    ⊎_elim
    (λ (e : a ≡ x). Memᴰ.append_left (flat_map f l) (rw e at i))
    (λ j. Memᴰ.append_right (f x) (flat_map_in f l j i))
    (Memᴰ.cases_cons m)

-- Two numbers can be compared.
pub le_or : (x y : ℕ) → (x ≤ y) ⊎ (y < x)
le_or zero y = inl (omega arith)
le_or (suc x) zero = inr (omega arith)
le_or (suc x) (suc y) = ⊎_elim (λ (e : x ≤ y). inl (omega arith)) (λ (n : y < x). inr (omega arith)) (le_or x y)
