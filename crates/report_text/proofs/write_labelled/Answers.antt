-- The word, then the number. Assumes nothing.
use native.Mathlib.Omega.{arith}
use Rattle.report_text.proofs.Appending.{both_appended}
use Rattle.report_text.proofs.write_labelled.Goals as goal

pub returns : goal.returns
returns c = record { appended = both_appended c.write_word-end.ensures c.write_field.ensures.appended; upper_bound = omega (arith, c.write_word-end.ensures.ends, c.write_field.ensures.upper_bound) }
