-- Laws of a byte that is compared with the first of those left from an index on. Assumes nothing.
use Prim.Native.Nat.{ℕ, zero, suc, ◌+◌, ◌-◌, ◌<◌}
use mathlib.Core.Path.{◌≡◌, refl}
use mathlib.Core.Bool.{false, ◌&&◌}
use mathlib.Core.List.{List, ◌∷◌}
use native.Mathlib.Numerals.{add-one}
use native.Mathlib.Omega.{arith}
use lib.Dec.{eqb}
use lib.ListN.{length, get_or, take, drop}
use lib.Seq.{drop-cons}
use Rattle.spec_ntriples.specs.Texts.{is_same_text}

-- Some are left.
pub byte_more : (b : ℕ) (text later : List ℕ) (at left : ℕ) → 0 < left → at < length text → is_same_text (b ∷ later) (take left (drop at text)) ≡ (eqb b (get_or text at 0) && is_same_text later (take (left - 1) (drop (at + 1) text)))
unfolding is_same_text
byte_more b text later at zero k h = absurd (omega arith)
byte_more b text later at (suc left) k h = let e : suc left - 1 ≡ left = omega arith in rw (drop-cons text at 0 h, add-one at, e) refl

-- None is left.
pub byte_none : (b : ℕ) (text later : List ℕ) (at left : ℕ) → left ≡ 0 → is_same_text (b ∷ later) (take left (drop at text)) ≡ false
unfolding is_same_text
byte_none b text later at left e = rw e refl
