-- What is printed for a file that is too long, for one that is read, and for one that is refused. Assumes nothing.
use native.Mathlib.Omega.{arith}
use Rattle.report_text.specs.Text.{refusal_text}
use Rattle.report_reading.proofs.Responding.{too_long-printed, delivery-printed, delivery_room, refusal-printed}
use Rattle.report_reading.proofs.respond.Goals as goal

pub returns-then-file-gt-MOST_INPUT : goal.returns-then-file-gt-MOST_INPUT
returns-then-file-gt-MOST_INPUT c = record { text = too_long-printed c.args.file.now c.if-file-gt-MOST_INPUT.true c.write_too_long.ensures.text; room = omega (arith, c.write_too_long.ensures.room) }

pub returns-in-Ok : goal.returns-in-Ok
returns-in-Ok c = record { text = delivery-printed c.args.file.now c.read_ntriples.result (omega (arith, c.if-file-gt-MOST_INPUT.false)) c.empty_dictionary-dictionary.ensures c.requires c.read_ntriples.ensures _ c.in-Ok.is; room = delivery_room c.args.file.now c.read_ntriples.result (omega (arith, c.if-file-gt-MOST_INPUT.false)) c.empty_dictionary-dictionary.ensures c.requires c.read_ntriples.ensures _ c.in-Ok.is }

pub returns-in-Err : goal.returns-in-Err
unfolding refusal_text
returns-in-Err c = record { text = refusal-printed c.args.file.now c.read_ntriples.result (omega (arith, c.if-file-gt-MOST_INPUT.false)) c.empty_dictionary-dictionary.ensures c.requires c.read_ntriples.ensures _ c.in-Err.is c.write_labelled.ensures.appended; room = omega (arith, c.write_labelled.ensures.upper_bound) }
