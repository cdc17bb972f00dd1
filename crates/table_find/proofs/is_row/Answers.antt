-- The words of the row decide.
use Rattle.table_find.proofs.FindLaws.{row_is}
use Rattle.table_find.proofs.is_row.Goals as goal

pub returns : goal.returns
returns c = row_is c.args.t.now _ _
