-- `columns` puts the first column and the other two together, as the order's parity has it.
use Rattle.listing_rows.proofs.OrderColumns.{even_order, odd_order}
use borrow.Author.Rules.{rules}
use Rattle.listing_rows.proofs.columns.Goals as goal

pub returns-then-order-eq0 : goal.returns-then-order-eq0
returns-then-order-eq0 c = even_order _ c.others-rest.result c.others-rest.ensures (search rules) c.if-order-eq0.true

pub returns : goal.returns
returns c = odd_order _ c.others-rest.result c.others-rest.ensures (search rules) c.if-order-eq0.false
