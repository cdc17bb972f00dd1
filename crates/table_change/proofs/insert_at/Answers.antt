-- A gap of three words opens at the row's place and is filled, in `put-row`.
use mathlib.Core.Path.{◌∙◌}
use native.Mathlib.Omega.{arith}
use Rattle.table_change.proofs.Shift.{copied_up}
use Rattle.table_change.proofs.Insert.{put-row}
use Rattle.table_change.proofs.insert_at.Goals as goal

pub returns : goal.returns
returns c = put-row _ _ _ c.args.x c.requires.spare.laid c.requires.spare.room c.requires.at_in_bounds (c.copy_within.ensures.after ∙ copied_up c.args.t.now _ _ (omega arith))
