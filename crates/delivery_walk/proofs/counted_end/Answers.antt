-- By what the count at the index is.
use Rattle.delivery_walk.proofs.Ends.{counted_end_lem}
use Rattle.delivery_walk.proofs.counted_end.Goals as goal

pub returns : goal.returns
returns c = counted_end_lem _ _ _ _ c.short_at.ensures.value c.fields_end.ensures
