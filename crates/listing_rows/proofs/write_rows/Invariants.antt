-- `write_rows` writes the rows of a table: the loop has written those up to i.
use Rattle.listing_rows.specs.inside.Written.{RowsWritten}
use Rattle.listing_rows.proofs.write_rows.Given as goal

abbrev pub invariant-loop-i : goal.invariant-loop-i
invariant-loop-i l = RowsWritten l.columns l.i l.table l.initial.out l.out
