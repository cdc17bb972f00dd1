-- By what the search among the facts found, and by the kind of update.
use Rattle.update_kept.proofs.Found.{found-place}
use Rattle.update_fact_at.proofs.Facts.{facts_ready, fact_there, fact_absent}
use borrow.Author.Rules.{rules}
use Rattle.update_facts.proofs.update_fact.Goals as goal

pub find-requires : goal.find-requires
find-requires c = record { n_in_bounds = search rules; t_value = facts_ready c.requires.formed_store }

pub withdraw_old_fact-requires : goal.withdraw_old_fact-requires
withdraw_old_fact-requires c = record { formed_store = c.requires.formed_store; fact_value = c.requires.fact_value; facts_value = found-place _ _ _ _ c.in-Ok.is c.find.ensures }

pub add_new_fact-requires : goal.add_new_fact-requires
add_new_fact-requires c = record { formed_store = c.requires.formed_store; fact_value = c.requires.fact_value; facts_value = found-place _ _ _ _ c.in-Err.is c.find.ensures }

pub returns-in-Addition : goal.returns-in-Addition
returns-in-Addition c = fact_there c.requires.formed_store _ c.requires.fact_value c.in-Addition.is (found-place _ _ _ _ c.in-Ok.is c.find.ensures)

pub returns-in-Withdrawal : goal.returns-in-Withdrawal
returns-in-Withdrawal c = rw c.in-Withdrawal.is c.withdraw_old_fact.ensures

pub returns-in-Addition-change : goal.returns-in-Addition-change
returns-in-Addition-change c = rw c.in-Addition-change.is c.add_new_fact.ensures

pub returns-in-Withdrawal-change : goal.returns-in-Withdrawal-change
returns-in-Withdrawal-change c = fact_absent c.requires.formed_store _ c.requires.fact_value c.in-Withdrawal-change.is (found-place _ _ _ _ c.in-Err.is c.find.ensures)
