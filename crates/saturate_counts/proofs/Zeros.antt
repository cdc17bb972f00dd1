-- Words that are all 0. Assumes nothing.
use mathlib.Core.Path.{◌≡◌, refl}
use Prim.Native.Nat.{ℕ, zero, suc}
use lib.ListN.{get_or, replicate}

-- Each of them, and what stands past the end.
pub zero-words : (n i : ℕ) → get_or {A = ℕ} (replicate n 0) i 0 ≡ 0
zero-words zero i = refl
zero-words (suc n) zero = refl
zero-words (suc n) (suc i) = zero-words n i
