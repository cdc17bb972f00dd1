-- By arithmetic on the length.
use native.Mathlib.Omega.{arith}
use Rattle.spec.specs.computed.Decoded.{field_end}
use Rattle.delivery_format.proofs.field_end.Goals as goal

pub returns : goal.returns
unfolding field_end
returns c = record { value = omega arith; upper_bound = omega arith }
