-- By `is_table`.
use Rattle.table_check.proofs.is_statement_table.Goals as goal

pub returns : goal.returns
returns c = c.is_table.ensures
