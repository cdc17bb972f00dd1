-- The row's three words are closed up and the last three cleared, in `drop-row`.
use mathlib.Core.Path.{◌∙◌}
use native.Mathlib.Omega.{arith}
use Rattle.table_change.proofs.Shift.{copied_down}
use Rattle.table_change.proofs.Remove.{drop-row}
use Rattle.table_change.proofs.remove_at.Goals as goal

pub returns : goal.returns
returns c = drop-row _ _ _ _ _ c.requires.laid c.requires.at_in_bounds (omega arith) (c.copy_within.ensures.after ∙ copied_down c.args.t.now _ _ (omega arith)) (c.fill.ensures.after (λ y q. q))
