-- The word and the number. Assumes nothing.
use mathlib.Core.Path.{refl}
use native.Mathlib.Omega.{arith}
use Rattle.report_text.specs.Text.{refusal_text}
use Rattle.report_printout.proofs.refuse.Goals as goal

pub returns : goal.returns
unfolding refusal_text
returns c = record { output_value = refl; appended = c.write_labelled.ensures.appended; errors_le_head_room = omega (arith, c.write_labelled.ensures.upper_bound) }
