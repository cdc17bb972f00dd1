-- What the program `kept_ntriples` prints of kept facts that were written (document 02, slips 1 and 3). Definitions only.
use Rattle.std.specs.Prelude.{ℕ, List, take, Ok, Err}
use Rattle.spec.specs.Outputs.{Reply}
use Rattle.spec.specs.declared.Delivered.{Delivered}
use Rattle.spec_writing.specs.Writing.{Written}
use Rattle.report_text.specs.Text.{result_line}
use Rattle.report_printout.specs.Printout.{Printout, printout, refusal}

-- The most bytes of kept facts that are printed.
abbrev pub most_output : ℕ
most_output = 3145728

-- What is printed of kept facts that were written, by the reply and the bytes: their lines, and the line of the result of the delivery that led
-- to them, or the number that refused them.
unfoldable pub printed_kept : Delivered → Reply → List ℕ → Printout
printed_kept d (Ok n) bytes = printout (take n bytes) (result_line d)
printed_kept d (Err n) bytes = refusal n

-- The same, by both together.
abbrev pub printed_written : Delivered → Written → Printout
printed_written d w = printed_kept d w.reply w.bytes
