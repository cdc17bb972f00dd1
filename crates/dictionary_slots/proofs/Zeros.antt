-- Words of zeros. Assumes nothing.
use Prim.Native.Nat.{ℕ, zero, suc}
use mathlib.Core.Path.{◌≡◌, refl}
use lib.ListN.{get_or, replicate}

-- Each of n zeros is 0, and so is what stands behind them.
pub zero-at : (n s : ℕ) → get_or {A = ℕ} (replicate n 0) s 0 ≡ 0
zero-at zero s = refl
zero-at (suc n) zero = refl
zero-at (suc n) (suc s) = zero-at n s
