-- By arithmetic on the two bytes.
use native.Mathlib.Omega.{arith}
use Rattle.spec.specs.computed.Decoded.{short}
use Rattle.delivery_format.proofs.short_at.Goals as goal

pub returns : goal.returns
unfolding short
returns c = record { value = omega arith; upper_bound = omega arith }
