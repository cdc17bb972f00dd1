-- Tallies, as the code raises them. Assumes nothing.
use Prim.Native.Nat.{ℕ, suc, ◌+◌}
use mathlib.Core.Path.{◌≡◌, refl}
use native.Mathlib.Numerals.{add-one}
use native.Mathlib.Omega.{arith}
use Rattle.spec.specs.declared.Answer.{Answer}
use Rattle.spec.specs.declared.Answer.TheVariants.{Applied, Idle, Refused}
use Rattle.spec.specs.declared.Tally.{Tally}
use Rattle.spec.specs.Deliveries.{tally, tallied}
use Rattle.delivery_tally.specs.inside.Totals.{total}

-- Each answer is one entry more,
pub tallied-total : (a : Answer) (y : Tally) → total (tallied a y) ≡ suc (total y)
unfolding tallied
tallied-total Applied y = omega arith
tallied-total Idle y = omega arith
tallied-total (Refused n) y = omega arith

-- as the code adds it.
pub applied-tallied : (a : Answer) (y : Tally) → a ≡ Applied → tally (y.applied + 1) y.idle y.refused ≡ tallied a y
unfolding tallied
applied-tallied a y e = rw (e, add-one y.applied) refl

pub idle-tallied : (a : Answer) (y : Tally) → a ≡ Idle → tally y.applied (y.idle + 1) y.refused ≡ tallied a y
unfolding tallied
idle-tallied a y e = rw (e, add-one y.idle) refl

pub refused-tallied : (a : Answer) (n : ℕ) (y : Tally) → a ≡ Refused n → tally y.applied y.idle (y.refused + 1) ≡ tallied a y
unfolding tallied
refused-tallied a n y e = rw (e, add-one y.refused) refl
