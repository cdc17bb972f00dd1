-- The digits before the last come first, then the last. Assumes nothing.
use mathlib.Core.Path.{sym}
use native.Mathlib.Omega.{arith}
use Rattle.report_text.proofs.Decimal.{decimal_small, decimal_large}
use Rattle.report_text.proofs.Appending.{both_appended, text_appended, small_room, large_room, last_room}
use Rattle.report_text.proofs.+write_number.Goals as goal

pub write_byte-requires : goal.write_byte-requires
write_byte-requires t c = small_room c.args.n c.args.at c.args.out.now c.if-n-lt10.true c.requires

pub returns-then-n-lt10 : goal.returns-then-n-lt10
returns-then-n-lt10 t c = text_appended (sym (decimal_small c.args.n c.if-n-lt10.true)) c.write_byte.ensures

pub write_number-last-requires : goal.write_number-last-requires
write_number-last-requires t c = (omega arith, large_room c.args.n c.args.at c.args.out.now c.if-n-lt10.false c.requires)

pub write_byte-requires-2 : goal.write_byte-requires-2
write_byte-requires-2 t c =
    last_room c.args.n c.args.at c.args.out.now c.write_number-last.new.out _ c.if-n-lt10.false c.requires c.write_number-last.ensures.ends c.write_number-last.auto.out

pub returns : goal.returns
returns t c =
    text_appended (sym (decimal_large c.args.n c.if-n-lt10.false)) (both_appended c.write_number-last.ensures c.write_byte-2.ensures)
