-- What is printed for a file that is too long, for one that is read, and for one that is refused. Assumes nothing.
use mathlib.Core.Path.{sym}
use native.Mathlib.Omega.{arith}
use lib.Seq.{length-take-le}
use Rattle.report_reading.proofs.Responding.{delivery_room}
use Rattle.report_kept.proofs.Responding.{too_long-printed, read-printed, read_refused}
use Rattle.report_kept.proofs.respond.Goals as goal

pub returns-then-file-gt-MOST_INPUT : goal.returns-then-file-gt-MOST_INPUT
returns-then-file-gt-MOST_INPUT c = record { text = too_long-printed c.args.file.now c.args.out.now c.if-file-gt-MOST_INPUT.true c.write_too_long.ensures.text; output = omega arith; errors = omega (arith, c.write_too_long.ensures.room) }

pub slice_bounds-delivery-end : goal.slice_bounds-delivery-end
slice_bounds-delivery-end c = omega (arith, delivery_room c.args.file.now c.read_ntriples.result (omega (arith, c.if-file-gt-MOST_INPUT.false)) c.empty_dictionary-dictionary.ensures (sym c.delivery_buffer-delivery.ensures) c.read_ntriples.ensures _ c.in-Ok.is, c.read_ntriples.auto.delivery, c.delivery_buffer-delivery.ensures)

pub slice_bounds-print_delivery-end-in-Ok : goal.slice_bounds-print_delivery-end-in-Ok
slice_bounds-print_delivery-end-in-Ok c = sym (length-take-le _ c.read_ntriples.new.delivery (omega (arith, delivery_room c.args.file.now c.read_ntriples.result (omega (arith, c.if-file-gt-MOST_INPUT.false)) c.empty_dictionary-dictionary.ensures (sym c.delivery_buffer-delivery.ensures) c.read_ntriples.ensures _ c.in-Ok.is, c.read_ntriples.auto.delivery, c.delivery_buffer-delivery.ensures)))

pub returns-in-Ok : goal.returns-in-Ok
returns-in-Ok c = record { text = read-printed c.args.file.now c.read_ntriples.result (omega (arith, c.if-file-gt-MOST_INPUT.false)) c.empty_dictionary-dictionary.ensures (sym c.delivery_buffer-delivery.ensures) c.read_ntriples.ensures _ c.in-Ok.is c.print_delivery.ensures.errors_after; output = c.print_delivery.ensures.output_le_most_output; errors = c.print_delivery.ensures.errors_le_head_room }

pub returns-in-Err : goal.returns-in-Err
returns-in-Err c = record { text = read_refused c.args.file.now c.read_ntriples.result (omega (arith, c.if-file-gt-MOST_INPUT.false)) c.empty_dictionary-dictionary.ensures (sym c.delivery_buffer-delivery.ensures) c.read_ntriples.ensures c.args.out.now _ c.in-Err.is c.refuse.ensures.output_value c.refuse.ensures.appended; output = omega (arith, c.refuse.ensures.output_value); errors = c.refuse.ensures.errors_le_head_room }
