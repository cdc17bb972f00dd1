-- Laws of the slots for the terms for which a place is kept: each leads to one term. Assumes nothing.
use Prim.Native.Nat.{ℕ, ◌*◌, ◌/◌, ◌≤◌}
use mathlib.Core.Path.{◌≡◌, ap}
use native.Mathlib.Nat.{div-add-mod', mul-mod_left, mul-div_cancel}
use native.Mathlib.Omega.{arith}
use Rattle.spec.specs.Terms.{kind, number}
use Rattle.spec_ntriples.specs.Dictionary.{first_number}
use Rattle.dictionary_bytes.specs.declared.Filled.{Filled}
use Rattle.dictionary_ranks.specs.inside.Ranks.{HasNumber, rank_of, stride_of, slot_for}
use Rattle.dictionary_ranks.proofs.Slots.{stride-some, slot_of_kind}
use Rattle.dictionary_places.specs.inside.Places.{IsKept}

-- Terms of a kind with one rank are one.
same_term : (v w : ℕ) → kind v ≡ kind w → first_number (kind v) ≤ number v → first_number (kind w) ≤ number w → rank_of v ≡ rank_of w → v ≡ w
unfolding rank_of
same_term v w k a b r = omega (arith, ap first_number k)

-- A slot has the place of one term only.
pub slot_own : (f : Filled) (v w : ℕ) → HasNumber f v → HasNumber f w → IsKept f v → IsKept f w → slot_for f v ≡ slot_for f w → v ≡ w
unfolding slot_for
slot_own f v w H I a b e =
    let k : kind v ≡ kind w = omega (arith, slot_of_kind f v H, slot_of_kind f w I) in
    let q : rank_of v / stride_of f (kind v) ≡ rank_of w / stride_of f (kind w) = omega (arith, slot_of_kind f v H, slot_of_kind f w I) in
    let s : stride_of f (kind v) ≡ stride_of f (kind w) = ap (stride_of f) k in
    same_term v w k H.first I.first (cc (div-add-mod' (rank_of v) (stride_of f (kind v)), div-add-mod' (rank_of w) (stride_of f (kind w))))

-- The slot for a term is that of the last kept one that is not behind it.
pub slot_shared : (f : Filled) (v w : ℕ) → kind v ≡ kind w → rank_of v ≡ rank_of w / stride_of f (kind w) * stride_of f (kind w) → IsKept f v × (slot_for f v ≡ slot_for f w)
unfolding slot_for
slot_shared f v w k r =
    let s = stride_of f (kind w) in
    (rw (k, r) (mul-mod_left (rank_of w / s) s), rw (k, r, mul-div_cancel (rank_of w / s) (stride-some f (kind w))))
