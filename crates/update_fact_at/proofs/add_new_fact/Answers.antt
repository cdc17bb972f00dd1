-- By the answers to questions 4 and 5, as the code counts them.
use mathlib.Core.Path.{refl}
use native.Mathlib.Omega.{arith}
use Rattle.spec.proofs.TableRows.{length-rows}
use Rattle.table_find.proofs.Place.{missing_at}
use Rattle.spec.proofs.TableFormed.{well_formed-is_table}
use Rattle.update_fact_at.proofs.Facts.{facts_full, kept-unfit, carried-sought, carried-raisable, fact-added, fact_spare, few-missing}
use borrow.Author.Rules.{rules}
use Rattle.update_fact_at.proofs.add_new_fact.Goals as goal

pub returns-then-capacity-n : goal.returns-then-capacity-n
returns-then-capacity-n c = facts_full c.requires.formed_store _ c.requires.fact_value c.requires.facts_value (omega (arith, c.capacity.ensures c.args.facts.now refl, c.if-capacity-n.true, length-rows c.args.facts.now))

pub carry-c-requires : goal.carry-c-requires
carry-c-requires c = record { statements_value = well_formed-is_table c.requires.formed_store.statements; in_bounds = search rules }

pub count_missing-missing-requires : goal.count_missing-missing-requires
count_missing-missing-requires c = carried-sought c.requires.formed_store _ c.requires.fact_value _ _ c.carry-c.ensures.value c.carry-c.ensures.out_after

pub overflow_add-kept : goal.overflow_add-kept
overflow_add-kept c = omega (arith, few-missing c.requires.formed_store _ c.requires.fact_value _ _ c.carry-c.ensures.value c.carry-c.ensures.out_after _ c.count_missing-missing.ensures, c.slice_known-2-1.given 0)

pub returns-then-kept_capacity-kept : goal.returns-then-kept_capacity-kept
returns-then-kept_capacity-kept c = kept-unfit c.requires.formed_store _ c.requires.fact_value _ _ c.carry-c.ensures.value c.carry-c.ensures.out_after _ c.count_missing-missing.ensures c.requires.facts_value (omega (arith, c.capacity.ensures c.args.facts.now refl, c.if-capacity-n.false, length-rows c.args.facts.now)) (omega (arith, c.kept_capacity.ensures, c.if-kept_capacity-kept.true, length-rows c.args.kept.now))

pub insert_at-requires : goal.insert_at-requires
insert_at-requires c = record { spare = fact_spare c.requires.formed_store _ c.requires.fact_value (omega (arith, c.capacity.ensures c.args.facts.now refl, c.if-capacity-n.false, length-rows c.args.facts.now)); at_in_bounds = (missing_at _ _ _ c.requires.facts_value).within }

pub raise_all-requires : goal.raise_all-requires
raise_all-requires c = carried-raisable c.requires.formed_store _ c.requires.fact_value _ _ c.carry-c.ensures.value c.carry-c.ensures.out_after _ c.count_missing-missing.ensures (omega (arith, c.capacity.ensures c.args.facts.now refl, c.if-capacity-n.false, length-rows c.args.facts.now)) (omega (arith, c.kept_capacity.ensures, c.if-kept_capacity-kept.false, length-rows c.args.kept.now))

pub returns : goal.returns
returns c = fact-added c.requires.formed_store _ c.requires.fact_value _ _ c.carry-c.ensures.value c.carry-c.ensures.out_after _ c.count_missing-missing.ensures c.requires.facts_value (omega (arith, c.capacity.ensures c.args.facts.now refl, c.if-capacity-n.false, length-rows c.args.facts.now)) (omega (arith, c.kept_capacity.ensures, c.if-kept_capacity-kept.false, length-rows c.args.kept.now)) c.insert_at.ensures c.raise_all.ensures
