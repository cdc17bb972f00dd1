-- The digits, then the byte; ten digits at most. Assumes nothing.
use native.Mathlib.Omega.{arith}
use Rattle.report_text.proofs.Decimal.{decimal-length}
use Rattle.report_text.proofs.Appending.{both_appended}
use Rattle.report_text.proofs.write_field.Goals as goal

pub write_number-end-requires : goal.write_number-end-requires
write_number-end-requires c = omega (arith, decimal-length c.args.n c.ranges.n.fits)

pub write_byte-requires : goal.write_byte-requires
write_byte-requires c = omega (arith, decimal-length c.args.n c.ranges.n.fits, c.write_number-end.ensures.ends)

pub returns : goal.returns
returns c = record { appended = both_appended c.write_number-end.ensures c.write_byte.ensures; upper_bound = omega (arith, decimal-length c.args.n c.ranges.n.fits, c.write_number-end.ensures.ends, c.write_byte.ensures.ends) }
