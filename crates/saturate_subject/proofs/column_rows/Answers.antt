-- The block of w and the blocks that were gathered have the objects of the rows x w o.
use native.Mathlib.Omega.{arith}
use lib.ListN.{length-set}
use Rattle.saturate_subject.proofs.Columns.{one_rising, one_fits, column-tallied}
use lib.ListN.{length-set, set}
use Rattle.saturate_subject.proofs.column_rows.Goals as goal

pub gather-k-requires : goal.gather-k-requires
gather-k-requires c = record { statements = c.requires.statements; c_lt_columns = (omega (arith, c.requires.statements_bound, length-set (set c.args.ends.now 0 c.args.column.from) 1 c.args.column.to, length-set c.args.ends.now 0 c.args.column.from)); square = c.requires.square; one_subject = c.requires.one_subject; all_rising = (one_rising c.args.f.now c.args.ends.now c.args.column.from c.args.column.to (omega (arith, c.requires.statements_bound)) _ _ _ c.requires.one_subject c.requires.first_le_from.0 c.requires.first_le_from.2 c.requires.first_le_from.3, one_fits c.args.f.now c.args.ends.now c.args.column.from c.args.column.to (omega (arith, c.requires.statements_bound)) (omega (arith, c.requires.statements_bound, c.requires.first_le_from))) }

pub merge_streams-requires : goal.merge_streams-requires
merge_streams-requires c = record { inside = (omega (arith, c.gather-k.ensures.same_ends, c.gather-k.ensures.few, c.requires.statements_bound, length-set (set c.args.ends.now 0 c.args.column.from) 1 c.args.column.to, length-set c.args.ends.now 0 c.args.column.from), c.gather-k.ensures.fits); all_rising = c.gather-k.ensures.rising; k_bound = omega (arith, c.gather-k.ensures.few, c.requires.statements_bound); room_in_bounds = c.requires.room_in_bounds }

pub returns : goal.returns
returns c = λ K a h. c.merge_streams.ensures K a (column-tallied c.args.f.now c.args.ends.now c.args.column.from c.args.column.to (omega (arith, c.requires.statements_bound)) K c.args.statements.now _ c.args.domains.now _ _ _ _ _ _ _ c.gather-k.ensures h)
