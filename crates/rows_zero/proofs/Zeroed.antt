-- Words of which a part is set to zero, as one list. Assumes nothing.
use Prim.Native.Nat.{ℕ, zero, suc, ◌-◌, ◌≤◌}
use mathlib.Core.Path.{◌≡◌, ap₂}
use mathlib.Core.List.{List, [], ◌∷◌, ◌++◌}
use native.Mathlib.Omega.{arith}
use lib.ListN.{length, take, drop, replicate}
use lib.Seq.{ext_get_or}
use Rattle.rows_zero.specs.inside.Effects.{WordsZeroed}

-- What is set to zero behind the first word.
zeroed-tail : (a e : ℕ) (x y : ℕ) (t s : List ℕ) → WordsZeroed (suc a) (suc e) (x ∷ t) (y ∷ s) → WordsZeroed a e t s
zeroed-tail a e x y t s z = record { low = λ w l. z.low (suc w) (omega arith); zeros = λ w l h. z.zeros (suc w) (omega arith) (omega arith); high = λ w l. z.high (suc w) (omega arith) }

-- The same where the first word is zero, too.
zeros-tail : (e : ℕ) (x y : ℕ) (t s : List ℕ) → WordsZeroed 0 (suc e) (x ∷ t) (y ∷ s) → WordsZeroed 0 e t s
zeros-tail e x y t s z = record { low = λ w l. absurd (omega arith); zeros = λ w l h. z.zeros (suc w) (omega arith) (omega arith); high = λ w l. z.high (suc w) (omega arith) }

-- The words before the part, zeros, and the words behind it.
pub zeroed_is : (a e : ℕ) (t s : List ℕ) → a ≤ e → e ≤ length t → length s ≡ length t → WordsZeroed a e t s → s ≡ take a t ++ (replicate (e - a) 0 ++ drop e t)
zeroed_is zero zero t s h l q z = ext_get_or 0 s t q (λ w g. z.high w (omega arith))
zeroed_is zero (suc e) [] s h l q z = absurd (omega arith)
zeroed_is zero (suc e) (x ∷ t) [] h l q z = absurd (omega arith)
zeroed_is zero (suc e) (x ∷ t) (y ∷ s) h l q z =
    let k : suc e - 0 ≡ suc (e - 0) = omega arith in
    rw k (ap₂ ◌∷◌ (z.zeros 0 (omega arith) (omega arith)) (zeroed_is zero e t s (omega arith) (omega arith) (omega arith) (zeros-tail e x y t s z)))
zeroed_is (suc a) zero t s h l q z = absurd (omega arith)
zeroed_is (suc a) (suc e) [] s h l q z = absurd (omega arith)
zeroed_is (suc a) (suc e) (x ∷ t) [] h l q z = absurd (omega arith)
zeroed_is (suc a) (suc e) (x ∷ t) (y ∷ s) h l q z =
    let k : suc e - suc a ≡ e - a = omega arith in
    rw k (ap₂ ◌∷◌ (z.low 0 (omega arith)) (zeroed_is a e t s (omega arith) (omega arith) (omega arith) (zeroed-tail a e x y t s z)))
