-- Section by section. Assumes nothing.
use mathlib.Core.Path.{◌∙◌}
use native.Mathlib.Omega.{arith}
use Rattle.spec.specs.declared.Change.TheVariants.{Addition, Withdrawal}
use Rattle.spec.specs.Updates.{update}
use Rattle.delivery_section.specs.inside.Running.{section}
use Rattle.delivery_section.proofs.Runs.{next-section}
use Rattle.delivery_run.proofs.Sections.{first-section, first_keeps, second_facts, still_formed, message-run}
use Rattle.delivery_run.proofs.run_message.Goals as goal

pub run_section-first-requires : goal.run_section-first-requires
run_section-first-requires c = record { formed_store = c.requires.formed_store; next = first-section c.args.bytes.now c.none.result c.requires.bytes_value c.none.ensures; k_value = first_keeps c.args.bytes.now c.requires.bytes_value_2 }

pub withdraw_facts-second-requires : goal.withdraw_facts-second-requires
withdraw_facts-second-requires c = record { formed_store = c.run_section-first.ensures.formed_store_2; next = next-section (update Withdrawal) _ 0 (first-section c.args.bytes.now c.none.result c.requires.bytes_value c.none.ensures) (omega arith) c.run_section-first.ensures.result_after; k_value = second_facts c.args.bytes.now c.requires.bytes_value_2 }

pub add_section-third-requires : goal.add_section-third-requires
add_section-third-requires c = record { formed_value = c.withdraw_facts-second.ensures.formed_value; next = next-section (update Withdrawal) _ 1 (next-section (update Withdrawal) _ 0 (first-section c.args.bytes.now c.none.result c.requires.bytes_value c.none.ensures) (omega arith) c.run_section-first.ensures.result_after) (omega arith) c.withdraw_facts-second.ensures.counted_after }

pub add_section-requires : goal.add_section-requires
add_section-requires c = record { formed_value = still_formed _ (section c.args.bytes.now 2) _ _ c.withdraw_facts-second.ensures.formed_value c.add_section-third.ensures; next = next-section (update Addition) _ 2 (next-section (update Withdrawal) _ 1 (next-section (update Withdrawal) _ 0 (first-section c.args.bytes.now c.none.result c.requires.bytes_value c.none.ensures) (omega arith) c.run_section-first.ensures.result_after) (omega arith) c.withdraw_facts-second.ensures.counted_after) (omega arith) c.add_section-third.ensures }

pub shape_of-statements : goal.shape_of-statements
shape_of-statements c = c.add_section.auto.statements ∙ c.add_section-third.auto.statements ∙ c.withdraw_facts-second.auto.statements ∙ c.run_section-first.auto.statements

pub shape_of-facts : goal.shape_of-facts
shape_of-facts c = c.add_section.auto.facts ∙ c.add_section-third.auto.facts ∙ c.withdraw_facts-second.auto.facts ∙ c.run_section-first.auto.facts

pub shape_of-kept : goal.shape_of-kept
shape_of-kept c = c.add_section.auto.kept ∙ c.add_section-third.auto.kept ∙ c.withdraw_facts-second.auto.kept ∙ c.run_section-first.auto.kept

pub shape_of-supports : goal.shape_of-supports
shape_of-supports c = c.add_section.auto.supports ∙ c.add_section-third.auto.supports ∙ c.withdraw_facts-second.auto.supports ∙ c.run_section-first.auto.supports

pub returns : goal.returns
returns c = message-run c.args.bytes.now _ _ _ _ _ _ _ _ c.none.ensures c.run_section-first.ensures.result_after c.withdraw_facts-second.ensures.counted_after c.add_section-third.ensures c.add_section.ensures
