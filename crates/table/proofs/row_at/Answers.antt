-- By computation.
use mathlib.Core.Path.{refl}
use Rattle.spec.specs.Tables.{row_at}
use Rattle.table.proofs.row_at.Goals as goal

pub returns : goal.returns
unfolding row_at
returns c = refl
