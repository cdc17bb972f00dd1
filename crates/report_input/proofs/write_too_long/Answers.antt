-- The label, the limit and a line end. Assumes nothing.
use native.Mathlib.Omega.{arith}
use Rattle.spec_ntriples.specs.Characters.{codes}
use Rattle.report_input.specs.Input.{too_long}
use Rattle.report_input.proofs.write_too_long.Goals as goal

pub returns : goal.returns
unfolding codes too_long
returns c = record { text = c.write_labelled.ensures.appended; room = omega (arith, c.write_labelled.ensures.upper_bound) }
