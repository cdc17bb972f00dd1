-- By arithmetic on the count.
use native.Mathlib.Omega.{arith}
use Rattle.spec.specs.computed.Decoded.{section_end}
use Rattle.delivery_format.proofs.section_end.Goals as goal

pub returns : goal.returns
unfolding section_end
returns c = record { value = omega arith; upper_bound = omega arith }
