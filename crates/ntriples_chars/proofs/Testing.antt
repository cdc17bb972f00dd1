-- Laws of tests. Assumes nothing.
use Prim.Native.Nat.{ℕ}
use mathlib.Core.Path.{◌≡◌, refl}
use mathlib.Core.Bool.{Bool, true, false, ◌&&◌, ◌||◌, not}
use native.Mathlib.Omega.{arith}

-- Or nothing.
pub or-false : (a : Bool) → (a || false) ≡ a
or-false true = refl
or-false false = refl

-- Neither of two.
pub neither : (a b : Bool) → (not a && not b) ≡ true → (a || (b || false)) ≡ false
neither false false e = refl
neither false true e = let z : ◌≡◌ {A = ℕ} 0 1 = cc in absurd (omega arith)
neither true b e = let z : ◌≡◌ {A = ℕ} 0 1 = cc in absurd (omega arith)

-- One of two.
pub either : (a b : Bool) → (not a && not b) ≡ false → (a || (b || false)) ≡ true
either false false e = let z : ◌≡◌ {A = ℕ} 0 1 = cc in absurd (omega arith)
either false true e = refl
either true b e = refl
