-- The four numbers with their words, one behind the other. Assumes nothing.
use native.Mathlib.Omega.{arith}
use Rattle.report_text.specs.Text.{result_line}
use Rattle.report_text.proofs.Appending.{both_appended}
use Rattle.report.proofs.write_result.Goals as goal

pub returns : goal.returns
unfolding result_line
returns c = record { appended = both_appended c.write_labelled-applied_at.ensures.appended (both_appended c.write_labelled-idle_at.ensures.appended (both_appended c.write_labelled-refused_at.ensures.appended c.write_labelled.ensures.appended)); upper_bound = omega (arith, c.write_labelled-applied_at.ensures.upper_bound, c.write_labelled-idle_at.ensures.upper_bound, c.write_labelled-refused_at.ensures.upper_bound, c.write_labelled.ensures.upper_bound) }
