-- `write_row` stores three columns of a triple one after the other.
use native.Mathlib.Omega.{arith}
use Rattle.listing_rows.proofs.Writing.{row_written}
use borrow.Author.Rules.{rules}
use Rattle.listing_rows.proofs.write_row.Goals as goal

pub returns : goal.returns
returns c = row_written _ c.args.columns c.args.i _ _ _ c.args.out.now (search rules) (omega arith) c.column.ensures c.column-2.ensures c.column-3.ensures
