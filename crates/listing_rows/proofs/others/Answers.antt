-- `others` works the two columns out.
use Rattle.listing_rows.proofs.OrderColumns.{others_are}
use Rattle.listing_rows.proofs.others.Goals as goal

pub returns : goal.returns
returns c = others_are _ c.requires
