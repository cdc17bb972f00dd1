-- The four numbers, one behind the other. Assumes nothing.
use native.Mathlib.Omega.{arith}
use Rattle.report_text.specs.Text.{row_line}
use Rattle.report_text.proofs.Appending.{both_appended}
use Rattle.report_text.proofs.write_row.Goals as goal

pub returns : goal.returns
unfolding row_line
returns c = record { appended = both_appended c.write_field-property_at.ensures.appended (both_appended c.write_field-object_at.ensures.appended (both_appended c.write_field-support_at.ensures.appended c.write_field.ensures.appended)); upper_bound = omega (arith, c.write_field-property_at.ensures.upper_bound, c.write_field-object_at.ensures.upper_bound, c.write_field-support_at.ensures.upper_bound, c.write_field.ensures.upper_bound) }
