-- The number and the tables are those of the entry's outcome. Assumes nothing.
use Rattle.capi.proofs.Numbers.{update_numbered}
use Rattle.capi.proofs.families_add.Goals as goal

pub returns : goal.returns
returns c = update_numbered _ _ _ _ c.answer_number.ensures c.add.ensures
