-- By the two kinds of tables.
use Rattle.table_check.proofs.are_rows.Goals as goal

pub returns-then-statements : goal.returns-then-statements
returns-then-statements c = rw c.if-statements.true c.are_statement_rows.ensures

pub returns-else-statements : goal.returns-else-statements
returns-else-statements c = rw c.if-statements.false c.are_fact_rows.ensures
