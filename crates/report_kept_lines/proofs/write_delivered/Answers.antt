-- The lines and the result, or the refusal. Assumes nothing.
use native.Mathlib.Omega.{arith}
use Rattle.report_kept_lines.proofs.Writing.{lines-printed, lines_room, lines_refused}
use Rattle.report_kept_lines.proofs.write_delivered.Goals as goal

pub returns-in-Ok : goal.returns-in-Ok
returns-in-Ok c = record { errors_after = lines-printed c.args.res c.args.kept.now c.args.dictionary.now c.write_kept.result c.requires.out_len c.write_kept.ensures _ c.in-Ok.is c.write_result.ensures.appended; output_le_most_output = lines_room c.args.res c.args.kept.now c.args.dictionary.now c.write_kept.result c.requires.out_len c.write_kept.ensures _ c.in-Ok.is; errors_le_head_room = omega (arith, c.write_result.ensures.upper_bound) }

pub returns-in-Err : goal.returns-in-Err
returns-in-Err c = record { errors_after = lines_refused c.args.res c.args.kept.now c.args.dictionary.now c.write_kept.result c.requires.out_len c.write_kept.ensures _ c.in-Err.is c.refuse.ensures.output_value c.refuse.ensures.appended; output_le_most_output = omega (arith, c.refuse.ensures.output_value); errors_le_head_room = c.refuse.ensures.errors_le_head_room }
