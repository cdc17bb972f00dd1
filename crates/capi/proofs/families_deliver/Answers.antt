-- The number, the result and the tables are those of the entry. Assumes nothing.
use Rattle.capi.proofs.Numbers.{delivery_numbered}
use Rattle.capi.proofs.families_deliver.Goals as goal

pub returns : goal.returns
returns c = delivery_numbered _ _ _ _ _ c.write_result.ensures.0 c.write_result.ensures.1 c.deliver.ensures
