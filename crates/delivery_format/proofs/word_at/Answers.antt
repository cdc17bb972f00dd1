-- By arithmetic on the two halves.
use native.Mathlib.Omega.{arith}
use Rattle.spec.specs.computed.Decoded.{word}
use Rattle.delivery_format.proofs.word_at.Goals as goal

pub returns : goal.returns
unfolding word
returns c = omega arith
