-- The tables are well formed, so the compiled statements and the facts are as the passes ask, and the saturation has the supports that they count.
use native.Mathlib.Omega.{arith}
use Rattle.spec.specs.Tables.{rows, most_statements, most_facts}
use Rattle.spec.specs.Terms.{is_allowed_statement, is_allowed_fact}
use Rattle.spec.proofs.TableFormed.{is_table_well_formed}
use Rattle.spec.specs.computed.Saturated.{saturation}
use Rattle.spec.proofs.Saturation.{saturation_counts}
use Rattle.saturate_schema.proofs.Made.{columns_are}
use Rattle.saturate.specs.inside.Saturated.{saturated}
use Rattle.saturate.proofs.Known.{no_bits, facts_are, statement-count, prepared, saturation_supported, exists, supports_small}
use Rattle.saturate.proofs.saturate.Goals as goal

pub bounds-statements-0 : goal.bounds-statements-0
bounds-statements-0 c = omega (arith, (statement-count c.args.statements.now (is_table_well_formed is_allowed_statement most_statements c.args.statements.now c.requires.statements_value)).1)

pub overflow_cast-m : goal.overflow_cast-m
overflow_cast-m c = omega (arith, (statement-count c.args.statements.now (is_table_well_formed is_allowed_statement most_statements c.args.statements.now c.requires.statements_value)).0)

pub columns-ns-requires : goal.columns-ns-requires
columns-ns-requires c = omega (arith, (statement-count c.args.statements.now (is_table_well_formed is_allowed_statement most_statements c.args.statements.now c.requires.statements_value)).0, (statement-count c.args.statements.now (is_table_well_formed is_allowed_statement most_statements c.args.statements.now c.requires.statements_value)).1)

pub classes-nc-requires : goal.classes-nc-requires
classes-nc-requires c = (omega (arith, (statement-count c.args.statements.now (is_table_well_formed is_allowed_statement most_statements c.args.statements.now c.requires.statements_value)).0, (statement-count c.args.statements.now (is_table_well_formed is_allowed_statement most_statements c.args.statements.now c.requires.statements_value)).1, c.columns-ns.auto.columns, c.columns-ns.ensures.few), c.columns-ns.ensures.rising)

pub terms-requires : goal.terms-requires
terms-requires c = record { ns_in_bounds = omega (arith, (statement-count c.args.statements.now (is_table_well_formed is_allowed_statement most_statements c.args.statements.now c.requires.statements_value)).0, (statement-count c.args.statements.now (is_table_well_formed is_allowed_statement most_statements c.args.statements.now c.requires.statements_value)).1, c.columns-ns.auto.columns, c.columns-ns.ensures.few); by_index = c.columns-ns.ensures.small }

pub fill_domains-requires : goal.fill_domains-requires
fill_domains-requires c = record { columns = columns_are c.args.statements.now (is_table_well_formed is_allowed_statement most_statements c.args.statements.now c.requires.statements_value) _ _ _ c.columns-ns.ensures c.classes-nc.ensures; m_in_bounds = omega (arith, (statement-count c.args.statements.now (is_table_well_formed is_allowed_statement most_statements c.args.statements.now c.requires.statements_value)).0, (statement-count c.args.statements.now (is_table_well_formed is_allowed_statement most_statements c.args.statements.now c.requires.statements_value)).1, c.columns-ns.auto.columns, c.columns-ns.ensures.few); square_len = no_bits }

pub fill_square-requires : goal.fill_square-requires
fill_square-requires c = record { columns = columns_are c.args.statements.now (is_table_well_formed is_allowed_statement most_statements c.args.statements.now c.requires.statements_value) _ _ _ c.columns-ns.ensures c.classes-nc.ensures; m_in_bounds = omega (arith, (statement-count c.args.statements.now (is_table_well_formed is_allowed_statement most_statements c.args.statements.now c.requires.statements_value)).0, (statement-count c.args.statements.now (is_table_well_formed is_allowed_statement most_statements c.args.statements.now c.requires.statements_value)).1, c.columns-ns.auto.columns, c.columns-ns.ensures.few); square_len = no_bits }

pub fill_places-requires-clause-facts : goal.fill_places-requires-clause-facts
fill_places-requires-clause-facts c = facts_are c.args.facts.now (is_table_well_formed is_allowed_fact most_facts c.args.facts.now c.requires.facts_value)

pub put_all-requires : goal.put_all-requires
put_all-requires c = record { prepared = prepared c.args.statements.now c.args.facts.now (is_table_well_formed is_allowed_statement most_statements c.args.statements.now c.requires.statements_value) (is_table_well_formed is_allowed_fact most_facts c.args.facts.now c.requires.facts_value) _ c.terms.new.terms _ _ _ _ c.columns-ns.ensures c.classes-nc.ensures c.terms.ensures c.fill_domains.ensures c.fill_square.ensures; facts = facts_are c.args.facts.now (is_table_well_formed is_allowed_fact most_facts c.args.facts.now c.requires.facts_value); index = c.fill_places.ensures; small = supports_small c.args.statements.now c.args.facts.now (is_table_well_formed is_allowed_statement most_statements c.args.statements.now c.requires.statements_value) (is_table_well_formed is_allowed_fact most_facts c.args.facts.now c.requires.facts_value) _ c.terms.new.terms _ _ _ _ c.columns-ns.ensures c.classes-nc.ensures c.terms.ensures c.fill_domains.ensures c.fill_square.ensures; exists = exists c.args.statements.now c.args.facts.now (is_table_well_formed is_allowed_statement most_statements c.args.statements.now c.requires.statements_value) (is_table_well_formed is_allowed_fact most_facts c.args.facts.now c.requires.facts_value) _ c.terms.new.terms _ _ _ _ c.columns-ns.ensures c.classes-nc.ensures c.terms.ensures c.fill_domains.ensures c.fill_square.ensures; room_in_bounds = c.requires.room_in_bounds }

pub returns : goal.returns
unfolding saturated
returns c = c.put_all.ensures (saturation (rows c.args.statements.now) (rows c.args.facts.now)) (saturation_counts (rows c.args.statements.now) (rows c.args.facts.now)) (saturation_supported c.args.statements.now c.args.facts.now (is_table_well_formed is_allowed_statement most_statements c.args.statements.now c.requires.statements_value) (is_table_well_formed is_allowed_fact most_facts c.args.facts.now c.requires.facts_value) _ c.terms.new.terms _ _ _ _ c.columns-ns.ensures c.classes-nc.ensures c.terms.ensures c.fill_domains.ensures c.fill_square.ensures)
