-- The words of a row, written one by one. Assumes nothing.
use Prim.Native.Nat.{ℕ, suc, ◌+◌}
use mathlib.Core.Path.{◌≡◌}
use mathlib.Core.List.{List, [], ◌∷◌}
use native.Mathlib.Numerals.{add-one}
use native.Mathlib.Omega.{arith}
use lib.ListN.{set}
use lib.Seq.{sets}

pub row_put : (ws : List ℕ) (at a b c : ℕ) → set (set (set ws at a) (at + 1) b) (at + 2) c ≡ sets ws at (a ∷ b ∷ c ∷ [])
row_put ws at a b c = let e : at + 2 ≡ suc (suc at) = omega arith in rw (add-one at, e)
