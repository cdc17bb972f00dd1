-- The bit of the column is set in its own word.
use Rattle.closure_rows.proofs.RowLaws.{alone_here}
use Rattle.closure_rows.proofs.column_word.Goals as goal

pub returns-then-c-w : goal.returns-then-c-w
returns-then-c-w c = alone_here _ _ c.if-c-w.true
