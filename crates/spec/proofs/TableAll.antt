-- Laws of tests of each element and of zeros. Assumes nothing.
use Prim.Native.Nat.{ℕ, zero, suc, ◌+◌, ◌≤◌, ◌<◌}
use mathlib.Core.Path.{◌≡◌, refl, sym, ap, ap₂, ◌∙◌, subst}
use mathlib.Core.Bool.{Bool, true, false, ◌&&◌}
use mathlib.Core.Logic.{⊎_elim}
use mathlib.Core.List.Memᴰ
use mathlib.Core.List.{List, [], ◌∷◌, ◌++◌, Memᴰ}
use native.Mathlib.Numerals.{add-one}
use native.Mathlib.Omega.{arith}
use lib.ListN.{length, get_or, drop, replicate, drop_of_length-le}
use lib.Seq.{drop-cons}
use lib.Dec.{eqb}
use borrow.Author.Tests.{eqb-true}
use Rattle.spec.specs.declared.Triple.{Triple}
use Rattle.spec.proofs.Ascending.{and_left, and_right}
use Rattle.spec.specs.Tables.{are_zero}
use Rattle.spec.specs.Lists.{all}

pub and_false : (b : Bool) → (b && false) ≡ false
and_false true = refl
and_false false = refl

pub and_assoc : (a b c : Bool) → (a && (b && c)) ≡ ((a && b) && c)
and_assoc true b c = refl
and_assoc false b c = refl

-- ---- each element passes a test

module _ {A : Type 0} (test : A → Bool) where
  -- What passes for a list passes for each member, and back.
  pub all-member : (xs : List A) → all test xs ≡ true → {x : A} → Memᴰ x xs → test x ≡ true
  unfolding all
  all-member [] e m = absurd (Memᴰ.not-nil m)
  all-member (y ∷ xs) e {x} m = ⊎_elim (λ (q : x ≡ y). rw q (and_left _ _ e)) (λ j. all-member xs (and_right (test y) _ e) j) (Memᴰ.cases_cons m)

  pub member-all : (xs : List A) → ((x : A) → Memᴰ x xs → test x ≡ true) → all test xs ≡ true
  unfolding all
  member-all [] h = refl
  member-all (y ∷ xs) h = rw (h y (Memᴰ.head refl)) (member-all xs (λ x m. h x (Memᴰ.tail m)))

  pub all_get_d : (xs : List A) (d : A) → all test xs ≡ true → (i : ℕ) → i < length xs → test (get_or xs i d) ≡ true
  unfolding all
  all_get_d [] d e i h = absurd (omega arith)
  all_get_d (x ∷ xs) d e zero h = and_left _ _ e
  all_get_d (x ∷ xs) d e (suc i) h = all_get_d xs d (and_right (test x) _ e) i (omega arith)

  pub get_or-all : (xs : List A) (d : A) → ((i : ℕ) → i < length xs → test (get_or xs i d) ≡ true) → all test xs ≡ true
  unfolding all
  get_or-all [] d h = refl
  get_or-all (x ∷ xs) d h = rw (h 0 (omega arith)) (get_or-all xs d (λ i k. h (suc i) (omega arith)))

  pub all_append : (xs ys : List A) → all test xs ≡ true → all test ys ≡ true → all test (xs ++ ys) ≡ true
  unfolding all
  all_append [] ys a b = b
  all_append (x ∷ xs) ys a b = rw (and_left (test x) (all test xs) a) (all_append xs ys (and_right (test x) _ a) b)

  -- A scan goes by what is left.
  pub all-next : (xs : List A) (i : ℕ) (d : A) → i < length xs → all test (drop i xs) ≡ (test (get_or xs i d) && all test (drop (i + 1) xs))
  unfolding all
  all-next xs i d h = rw (add-one, drop-cons xs i d h)

  pub all_more : (xs : List A) (i : ℕ) (d : A) → i < length xs → test (get_or xs i d) ≡ true → all test (drop i xs) ≡ all test (drop (i + 1) xs)
  all_more xs i d h e = rw (all-next xs i d h, e)

  pub all_stop : (xs : List A) (i : ℕ) (d : A) → i < length xs → test (get_or xs i d) ≡ false → all test (drop i xs) ≡ false
  all_stop xs i d h e = rw (all-next xs i d h, e)

  pub all_end : (xs : List A) (i : ℕ) → length xs ≤ i → all test (drop i xs) ≡ true
  unfolding all
  all_end xs i h = rw (drop_of_length-le xs h)

-- A test of a row that was read: b is its answer.
pub answered : (test : Triple → Bool) {t u : Triple} {a b : Bool} → t ≡ u → a ≡ test t → a ≡ b → test u ≡ b
answered test e p q = ap test (sym e) ∙ sym p ∙ q

-- ---- zeros

pub zeros_are : (ws : List ℕ) → are_zero ws ≡ true → ws ≡ replicate (length ws) 0
unfolding are_zero all
zeros_are [] e = refl
zeros_are (w ∷ ws) e = ap₂ ◌∷◌ (eqb-true w 0 (and_left _ _ e)) (zeros_are ws (and_right (eqb w 0) _ e))

pub replicate_of : (ws : List ℕ) (n : ℕ) → are_zero ws ≡ true → length ws ≡ n → ws ≡ replicate n 0
replicate_of ws n e q = subst (λ (k : ℕ). ws ≡ replicate k 0) q (zeros_are ws e)

pub are_zero-replicate : (n : ℕ) → are_zero (replicate n 0) ≡ true
unfolding are_zero all
are_zero-replicate zero = refl
are_zero-replicate (suc n) = are_zero-replicate n

pub zeros-next : (ws : List ℕ) (i : ℕ) → i < length ws → are_zero (drop i ws) ≡ (eqb (get_or ws i 0) 0 && are_zero (drop (i + 1) ws))
unfolding are_zero all
zeros-next ws i h = rw (add-one, drop-cons ws i 0 h)

pub zeros_end : (ws : List ℕ) (i : ℕ) → length ws ≤ i → are_zero (drop i ws) ≡ true
unfolding are_zero all
zeros_end ws i h = rw (drop_of_length-le ws h)
