-- Lowering adds no row.
use Rattle.table_find.proofs.Place.{stands_at}
use Rattle.spec.proofs.TableFormed.{well_formed-is_table}
use Rattle.update_fact_at.proofs.Facts.{carried-lowerable, fact_withdrawn}
use borrow.Author.Rules.{rules}
use Rattle.update_fact_at.proofs.withdraw_old_fact.Goals as goal

pub carry-c-requires : goal.carry-c-requires
carry-c-requires c = record { statements_value = well_formed-is_table c.requires.formed_store.statements; in_bounds = search rules }

pub remove_at-requires : goal.remove_at-requires
remove_at-requires c = record { laid = c.requires.formed_store.facts.laid; at_in_bounds = (stands_at _ _ _ c.requires.facts_value).within }

pub lower_all-requires : goal.lower_all-requires
lower_all-requires c = carried-lowerable c.requires.formed_store _ c.requires.fact_value _ _ c.carry-c.ensures.value c.carry-c.ensures.out_after

pub returns : goal.returns
returns c = fact_withdrawn c.requires.formed_store _ c.requires.fact_value _ _ c.carry-c.ensures.value c.carry-c.ensures.out_after c.requires.facts_value c.remove_at.ensures c.lower_all.ensures
