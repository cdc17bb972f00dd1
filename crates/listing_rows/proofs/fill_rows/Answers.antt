-- `fill_rows` writes the rows in a column order over a cleared output and sorts them.
use Rattle.listing_rows.proofs.Filling.{sorted-filled}
use Rattle.listing_rows.proofs.fill_rows.Goals as goal

pub returns : goal.returns
returns c = sorted-filled c.requires.listable c.requires.order_bound c.requires.table_in_bounds c.requires.out_value c.write_rows.auto.out c.sort_rows.auto.t c.columns.ensures c.write_rows.ensures c.sort_rows.ensures
