-- The line of the result, that of the number of rows, and those of the rows. Assumes nothing.
use native.Mathlib.Omega.{arith}
use Rattle.report_text.proofs.Lines.{report-lines}
use Rattle.report.proofs.write_report.Goals as goal

pub returns : goal.returns
returns c = record { appended = report-lines c.args.res c.args.kept.now c.args.supports.now c.requires.places c.write_result-count_at.ensures.appended c.write_labelled-rows_at.ensures.appended c.write_rows.ensures.appended; upper_bound = omega (arith, c.write_result-count_at.ensures.upper_bound, c.write_labelled-rows_at.ensures.upper_bound, c.write_rows.ensures.upper_bound) }
