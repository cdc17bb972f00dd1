-- The words that hold rows, as one equation. Assumes nothing.
use mathlib.Core.Path.{◌≡◌, refl, ap, ap₂}
use mathlib.Core.List.{List, ◌∷◌, ◌++◌}
use Prim.Native.Nat.{ℕ, suc, ◌+◌, ◌*◌, ◌<◌, ◌≤◌, zero}
use native.Mathlib.Nat.{zero-mul, add-mul, suc-mul}
use native.Mathlib.Numerals.{add-one}
use native.Mathlib.Omega.{arith}
use lib.ListN.{length, get_or, drop, take}
use lib.Seq.{drop-cons, drop-drop, take-add}
use Rattle.rows.specs.inside.Rows.{row, tabulate, rows}
use Rattle.spec.specs.Rows.{flat}

-- A row is a part of the words.
pub row-take : (m p : ℕ) (s : List ℕ) → p + m ≤ length s → row m p s ≡ take m (drop p s)
unfolding row
row-take zero p s h = refl
row-take (suc m) p s h =
    let l : p < length s = omega arith in
    rw (drop-cons s p 0, add-one p) (ap (λ (x : List ℕ). get_or s p 0 ∷ x) (row-take m (suc p) s (omega arith)))

-- The words of n rows from row k on are a part of the words.
pub flat_rows : (m k n : ℕ) (s : List ℕ) → (k + n) * m ≤ length s → flat (rows m s k n) ≡ take (n * m) (drop (k * m) s)
unfolding flat tabulate
flat_rows m k zero s h = let z : 0 * m ≡ 0 = zero-mul m in rw z
flat_rows m k (suc n) s h =
    let e : suc n * m ≡ m + n * m = omega (arith, suc-mul n m) in
    let d : (k + 1) * m ≡ k * m + m = omega (arith, add-mul k 1 m) in
    let g : (k + suc n) * m ≡ k * m + (n * m + m) = omega (arith, add-mul k (suc n) m, suc-mul n m) in
    let f : (k + 1 + n) * m ≡ (k + suc n) * m = ap (λ (x : ℕ). x * m) (omega arith) in
    let a : row m (k * m) s ≡ take m (drop (k * m) s) = row-take m (k * m) s (omega arith) in
    let b : flat (rows m s (k + 1) n) ≡ take (n * m) (drop ((k + 1) * m) s) = flat_rows m (k + 1) n s (omega arith) in
    rw (e, take-add m (n * m) (drop (k * m) s), drop-drop m (k * m) s, ← d) (ap₂ (λ (x y : List ℕ). x ++ y) a b)
