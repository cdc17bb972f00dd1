-- Laws of the slots for terms: those of a kind are 16,384. Assumes nothing.
use Prim.Native.Nat.{ℕ, zero, suc, ◌+◌, ◌-◌, ◌*◌, ◌/◌, ◌<◌}
use mathlib.Core.Path.{◌≡◌, refl}
use native.Mathlib.Nat.{div-lt_iff_lt-mul}
use native.Mathlib.Omega.{arith}
use Rattle.spec.specs.Terms.{kind, number}
use Rattle.spec_ntriples.specs.Dictionary.{first_number}
use Rattle.dictionary_bytes.specs.declared.Filled.{Filled}
use Rattle.dictionary_numbers.specs.inside.Numbers.{number_of}
use Rattle.dictionary_ranks.specs.inside.Ranks.{HasNumber, rank_of, stride_of, slot_for}

-- The first number of a kind.
pub first_uri : (k : ℕ) → k ≡ 0 → 16 ≡ first_number k
unfolding first_number
first_uri k e = rw e

pub first_other : (k : ℕ) → (k ≡ 0 → ⊥) → 1 ≡ first_number k
unfolding first_number
first_other zero n = absurd (n refl)
first_other (suc k) n = refl

-- A stride is not 0.
pub stride-some : (f : Filled) (k : ℕ) → 0 < stride_of f k
unfolding stride_of
stride-some f k = omega arith

-- The places of a kind suffice for its terms.
suffices : (j n : ℕ) → j < n → j / ((n - 1) / 16384 + 1) < 16384
suffices j n h = (div-lt_iff_lt-mul {k = (n - 1) / 16384 + 1} {x = j} {y = 16384} (omega arith)).1 (omega arith)

pub slot_of_kind : (f : Filled) (w : ℕ) → HasNumber f w → rank_of w / stride_of f (kind w) < 16384
unfolding rank_of stride_of
slot_of_kind f w H = suffices (number w - first_number (kind w)) (number_of f (kind w) - first_number (kind w)) (omega (arith, H.first, H.taken))

pub slot-within : (f : Filled) (w : ℕ) → HasNumber f w → slot_for f w < 49152
unfolding slot_for
slot-within f w H = omega (arith, slot_of_kind f w H, H.least)

-- The slot for a term, by its rank and its kind's stride.
pub slot_by : (f : Filled) (w r s : ℕ) → HasNumber f w → r ≡ rank_of w → s ≡ stride_of f (kind w) → (kind w * 16384 + r / s ≡ slot_for f w) × (kind w * 16384 + r / s < 49152)
unfolding slot_for
slot_by f w r s H a b = let q : r / s ≡ rank_of w / stride_of f (kind w) = rw (a, b) in (omega arith, omega (arith, slot_of_kind f w H, H.least))
