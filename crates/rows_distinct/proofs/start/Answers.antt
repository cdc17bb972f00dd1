-- `start` counts no rows.
use Rattle.rows_distinct.proofs.Collecting.{collects_none}
use Rattle.rows_distinct.proofs.start.Goals as goal

pub returns : goal.returns
returns c = collects_none
