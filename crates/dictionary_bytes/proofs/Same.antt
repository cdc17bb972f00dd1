-- Laws of parts of bytes, and of texts that are compared. Assumes nothing.
use Prim.Native.Nat.{ℕ, zero, suc, ◌+◌, ◌-◌, ◌≤◌, ◌<◌}
use mathlib.Core.Path.{◌≡◌, refl, sym, ap, ap₂, ◌∙◌}
use mathlib.Core.Bool.{Bool, true, false, ◌&&◌}
use mathlib.Core.List.{List, [], ◌∷◌, ◌++◌}
use native.Mathlib.Numerals.{add-one}
use native.Mathlib.Omega.{arith}
use lib.Dec.{eqb}
use lib.Pointwise.{pointwise}
use lib.ListN.{length, get_or, take, drop, length-take, length-drop}
use lib.Seq.{drop-cons, take-add, drop-drop}
use borrow.Author.Tests.{eqb-true, eq-eqb}
use Rattle.spec_ntriples.specs.Texts.{is_same_text}

-- ---- parts

-- The first byte of a part, and the part behind it.
pub part-cons : (bs : List ℕ) (at n : ℕ) → at < length bs → 0 < n → take n (drop at bs) ≡ get_or bs at 0 ∷ take (n - 1) (drop (at + 1) bs)
part-cons bs at zero h k = absurd (omega arith)
part-cons bs at (suc n) h k = let e : suc n - 1 ≡ n = omega arith in rw (e, add-one at, drop-cons bs at 0 h)

-- A part in two.
pub part_split : (bs : List ℕ) (at m n : ℕ) → m ≤ n → take n (drop at bs) ≡ take m (drop at bs) ++ take (n - m) (drop (at + m) bs)
part_split bs at m n h = let e : n ≡ m + (n - m) = omega arith in ap (λ (j : ℕ). take j (drop at bs)) e ∙ take-add m (n - m) (drop at bs) ∙ rw (drop-drop m at bs)

-- The length of a part.
pub part_length : (bs : List ℕ) (at n : ℕ) → at + n ≤ length bs → length (take n (drop at bs)) ≡ n
part_length bs at n h = simp (length-take, length-drop) (omega arith)

-- ---- equal texts

-- A text is the same as itself.
pub same_refl : (s : List ℕ) → is_same_text s s ≡ true
unfolding is_same_text
same_refl [] = refl
same_refl (a ∷ s) = rw (eq-eqb a a refl) (same_refl s)

and_both : (a b : Bool) → (a && b) ≡ true → (a ≡ true) × (b ≡ true)
and_both true b e = (refl, e)
and_both false b e = let z : ◌≡◌ {A = ℕ} 0 1 = cc in absurd (omega arith)

-- Texts that are the same are equal.
pub same_equal : (s t : List ℕ) → is_same_text s t ≡ true → s ≡ t
unfolding is_same_text
same_equal [] [] e = refl
same_equal [] (b ∷ t) e = let z : ◌≡◌ {A = ℕ} 0 1 = cc in absurd (omega arith)
same_equal (a ∷ s) [] e = let z : ◌≡◌ {A = ℕ} 0 1 = cc in absurd (omega arith)
same_equal (a ∷ s) (b ∷ t) e = ap₂ ◌∷◌ (eqb-true a b (and_both (eqb a b) (is_same_text s t) e).0) (same_equal s t (and_both (eqb a b) (is_same_text s t) e).1)

-- Equal texts are the same.
pub equal_same : (s t : List ℕ) → s ≡ t → is_same_text s t ≡ true
equal_same s t e = rw e (same_refl t)

-- Texts that are not the same are not equal.
pub other_differ : (s t : List ℕ) → is_same_text s t ≡ false → s ≡ t → ⊥
other_differ s t e q = let z : true ≡ false = sym (equal_same s t q) ∙ e in let y : ◌≡◌ {A = ℕ} 0 1 = cc in absurd (omega arith)

-- Texts that are not equal are not the same.
pub differ_other : (s t : List ℕ) → (s ≡ t → ⊥) → is_same_text s t ≡ false
differ_other s t h = go (is_same_text s t) refl
  where
    go : (b : Bool) → is_same_text s t ≡ b → is_same_text s t ≡ false
    go true e = absurd (h (same_equal s t e))
    go false e = e

-- Texts of different lengths are not the same.
pub lengths_differ : (s t : List ℕ) → (length s ≡ length t → ⊥) → is_same_text s t ≡ false
lengths_differ s t h = differ_other s t (λ e. h (ap length e))

-- ---- slices that are compared

-- `==` of two slices says whether their texts are the same.
pub same_slices : (s t : List ℕ) → pointwise eqb s t ≡ is_same_text s t
unfolding is_same_text
same_slices [] [] = refl
same_slices [] (b ∷ t) = refl
same_slices (a ∷ s) [] = refl
same_slices (a ∷ s) (b ∷ t) = ap (λ (x : Bool). eqb a b && x) (same_slices s t)
