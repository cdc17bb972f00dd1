-- `column` reads one of a triple's three columns.
use borrow.Author.Rules.{rules}
use Rattle.listing_rows.proofs.Writing.{column_last}
use Rattle.listing_rows.proofs.column.Goals as goal

pub returns-in_default : goal.returns-in_default
returns-in_default c = column_last c.args.t c.args.c (search rules) (search rules)
