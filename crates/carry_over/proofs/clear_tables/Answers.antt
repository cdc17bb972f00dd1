-- By `clear`, for each table.
use Rattle.old_store.specs.CarryingOver.{zero_tables}
use Rattle.old_store.proofs.Tables.{tables_eq}
use Rattle.carry_over.proofs.clear_tables.Goals as goal

pub returns : goal.returns
unfolding zero_tables
returns c = tables_eq c.clear.ensures c.clear-2.ensures c.clear-3.ensures c.clear-4.ensures
