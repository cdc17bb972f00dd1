-- By what the search among the statements found, and by the kind of update. Assumes nothing.
use Rattle.update_kept.proofs.Found.{found-place}
use Rattle.update_statement_at.proofs.Statements.{statements_ready, statement_there, statement_absent}
use borrow.Author.Rules.{rules}
use Rattle.update_statements.proofs.update_statement.Goals as goal

pub find-requires : goal.find-requires
find-requires c = record { n_in_bounds = search rules; t_value = statements_ready c.requires.formed_store _ c.requires.statement_value }

pub withdraw_old_statement-requires : goal.withdraw_old_statement-requires
withdraw_old_statement-requires c = record { formed_store = c.requires.formed_store; statement_value = c.requires.statement_value; statements_value = found-place _ _ _ _ c.in-Ok.is c.find.ensures }

pub add_new_statement-requires : goal.add_new_statement-requires
add_new_statement-requires c = record { formed_store = c.requires.formed_store; statement_value = c.requires.statement_value; statements_value = found-place _ _ _ _ c.in-Err.is c.find.ensures }

pub returns-in-Addition : goal.returns-in-Addition
returns-in-Addition c = statement_there c.requires.formed_store _ c.requires.statement_value c.in-Addition.is (found-place _ _ _ _ c.in-Ok.is c.find.ensures)

pub returns-in-Withdrawal : goal.returns-in-Withdrawal
returns-in-Withdrawal c = rw c.in-Withdrawal.is c.withdraw_old_statement.ensures

pub returns-in-Addition-change : goal.returns-in-Addition-change
returns-in-Addition-change c = rw c.in-Addition-change.is c.add_new_statement.ensures

pub returns-in-Withdrawal-change : goal.returns-in-Withdrawal-change
returns-in-Withdrawal-change c = statement_absent c.requires.formed_store _ c.requires.statement_value c.in-Withdrawal-change.is (found-place _ _ _ _ c.in-Err.is c.find.ensures)
