-- By the number that `refusal` gives.
use Rattle.old_store.proofs.Carrying.{asked, gives-rows, gives_zeros}
use Rattle.carry_over.proofs.carry_over.Goals as goal

pub returns-then-n-ne0 : goal.returns-then-n-ne0
returns-then-n-ne0 c = gives_zeros _ _ c.refusal-n.ensures c.if-n-ne0.true c.clear_tables.ensures

pub copy_tables-requires : goal.copy_tables-requires
copy_tables-requires c = asked _ _ c.refusal-n.ensures c.if-n-ne0.false

pub returns : goal.returns
returns c = gives-rows _ _ c.refusal-n.ensures c.if-n-ne0.false c.copy_tables.ensures
