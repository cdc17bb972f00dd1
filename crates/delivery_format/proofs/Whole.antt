-- What bounds the places of a whole delivery. Assumes nothing.
use Prim.Native.Nat.{ℕ, zero, suc, ◌+◌, ◌-◌, ◌*◌, ◌≤◌, ◌<◌}
use mathlib.Core.Path.{◌≡◌, refl}
use mathlib.Core.Bool.{true}
use mathlib.Core.List.{List}
use native.Mathlib.Nat.{add-zero, add-suc}
use native.Mathlib.Omega.{arith}
use lib.ListN.{length}
use lib.Dec.{leb}
use borrow.Author.Tests.{leb-true, eqb-true}
use Rattle.spec.proofs.Ascending.{and_left, and_right}
use Rattle.spec.specs.Messages.{most_bytes}
use Rattle.spec.specs.computed.Decoded.{short, section_end, section_start, fields_end, is_whole}
use Rattle.delivery_format.proofs.Walk.{fields_end_from}

-- A section is followed by the next.
pub section-next : (bs : List ℕ) (k : ℕ) → section_start bs (suc k) ≡ section_start bs k + 2 + short bs (section_start bs k) * 12
unfolding section_start section_end
section-next bs k = refl

-- It ends where a later one begins, or before.
section_before : (bs : List ℕ) (k j : ℕ) → section_start bs k + 2 + short bs (section_start bs k) * 12 ≤ section_start bs (suc k + j)
section_before bs k zero = rw (add-zero (suc k), section-next bs k) (omega arith)
section_before bs k (suc j) = rw (add-suc (suc k) j, section-next bs (suc k + j)) (omega (arith, section_before bs k j))

module _ (bs : List ℕ) (w : is_whole bs ≡ true) where
  -- A whole delivery has at most 65,536 bytes.
  pub whole_length : length bs ≤ 65536
  unfolding is_whole
  whole_length = leb-true _ _ (and_left (leb (length bs) most_bytes) _ w)

  -- Its fields end at its last byte.
  pub whole_end : fields_end bs (section_start bs 4 + 2) (short bs (section_start bs 4)) ≡ length bs
  unfolding is_whole
  whole_end = eqb-true _ _ (and_right (leb (length bs) most_bytes) _ w)

  -- Its fifth section begins within it.
  pub whole_fields : section_start bs 4 + 2 ≤ length bs
  whole_fields = omega (arith, whole_end, fields_end_from bs (section_start bs 4 + 2) (short bs (section_start bs 4)))

  -- Each of its other sections ends within it.
  pub section-within : (k : ℕ) → k < 4 → section_start bs k + 2 + short bs (section_start bs k) * 12 ≤ length bs
  section-within k h =
      let e : suc k + (3 - k) ≡ 4 = omega arith in
      omega (arith, whole_fields, rw e at (section_before bs k (3 - k)))

  -- So it ends at index 65,536 or before.
  pub section_small : (k : ℕ) → k < 4 → section_start bs k + 2 + short bs (section_start bs k) * 12 ≤ 65536
  section_small k h = omega (arith, whole_length, section-within k h)

  -- The same of a start and a count that were read.
  pub section_fits : (k at n : ℕ) → k < 4 → at ≡ section_start bs k → n ≡ short bs at → at + 2 + n * 12 ≤ length bs
  section_fits k at n h e q = rw (q, e) (section-within k h)
