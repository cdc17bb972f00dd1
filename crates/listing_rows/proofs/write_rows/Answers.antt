use Rattle.listing_rows.proofs.Writing.{more-written}
use Rattle.listing_rows.proofs.write_rows.Goals as goal

pub loop-i-preserved : goal.loop-i-preserved
loop-i-preserved c = more-written _ _ _ _ _ _ _ c.loop-i.invariant c.row_at.ensures c.write_row.ensures
