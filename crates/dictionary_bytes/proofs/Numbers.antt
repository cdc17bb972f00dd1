-- Laws of numbers in bytes, the lowest first. Assumes nothing.
use Prim.Native.Nat.{ℕ, ◌+◌, ◌-◌, ◌*◌, ◌^◌, ◌≤◌, ◌<◌}
use mathlib.Core.Path.{◌≡◌}
use mathlib.Core.List.{List}
use native.Mathlib.Nat.{pow-suc, pow-le-pow_right, lt_of_lt_of_le}
use native.Mathlib.Numerals.{add-one}
use native.Mathlib.Omega.{arith}
use lib.ListN.{length, get_or, take, drop}
use Rattle.spec_ntriples.specs.Dictionary.{bytes_number}
use Rattle.dictionary_bytes.proofs.Same.{part-cons}

-- A number of some bytes with one more in front.
pub bound_more : (k v b : ℕ) → v < 256 ^ k → b < 256 → v * 256 + b < 256 ^ (k + 1)
bound_more k v b l m = rw (add-one k, pow-suc 256 k) (omega arith)

-- At most seven bytes, and one more, fit 64 bits.
pub number_fits : (k v : ℕ) → k ≤ 7 → v < 256 ^ k → v < 256 ^ 7
number_fits k v h l = lt_of_lt_of_le l (pow-le-pow_right (omega arith) h)

-- A number with a byte more in front.
pub number_more : (bs : List ℕ) (i k : ℕ) → i < length bs → bytes_number (take (k + 1) (drop i bs)) ≡ bytes_number (take k (drop (i + 1) bs)) * 256 + get_or bs i 0
unfolding bytes_number
number_more bs i k h = let e : k + 1 - 1 ≡ k = omega arith in rw (part-cons bs i (k + 1) h (omega arith), e) (omega arith)
