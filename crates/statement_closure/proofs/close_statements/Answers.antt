-- The table is well formed, so its columns are as the parts ask, and the words hold its closed pairs.
use mathlib.Core.Path.{◌∙◌}
use native.Mathlib.Omega.{arith}
use Rattle.spec.specs.Terms.{is_allowed_statement}
use Rattle.spec.specs.Tables.{most_statements}
use Rattle.spec.proofs.TableFormed.{is_table_well_formed}
use Rattle.saturate_schema.proofs.Made.{columns_are}
use Rattle.statement_closure.proofs.Made.{statement-count, closure_made}
use Rattle.statement_closure.proofs.close_statements.Goals as goal

pub bounds-statements-0 : goal.bounds-statements-0
bounds-statements-0 c = let w = is_table_well_formed is_allowed_statement most_statements c.args.statements.now c.requires.statements_value in let few = statement-count c.args.statements.now w in omega (arith, few.1)

pub overflow_cast-m : goal.overflow_cast-m
overflow_cast-m c = let w = is_table_well_formed is_allowed_statement most_statements c.args.statements.now c.requires.statements_value in let few = statement-count c.args.statements.now w in omega (arith, few.0)

pub columns-ns-requires : goal.columns-ns-requires
columns-ns-requires c = let w = is_table_well_formed is_allowed_statement most_statements c.args.statements.now c.requires.statements_value in let few = statement-count c.args.statements.now w in omega (arith, few.0, few.1, c.no_columns-columns.ensures)

pub classes-nc-requires : goal.classes-nc-requires
classes-nc-requires c = let w = is_table_well_formed is_allowed_statement most_statements c.args.statements.now c.requires.statements_value in let few = statement-count c.args.statements.now w in (omega (arith, few.0, c.no_columns-columns.ensures, c.columns-ns.auto.columns, c.columns-ns.ensures.few), c.columns-ns.ensures.rising)

pub fill_rows-requires : goal.fill_rows-requires
fill_rows-requires c = let w = is_table_well_formed is_allowed_statement most_statements c.args.statements.now c.requires.statements_value in let few = statement-count c.args.statements.now w in
    record { columns = columns_are c.args.statements.now w _ _ _ c.columns-ns.ensures c.classes-nc.ensures; m_in_bounds = (few.1, omega (arith, few.0, c.no_columns-columns.ensures, c.columns-ns.auto.columns, c.columns-ns.ensures.few), c.requires.closure_len) }

pub write_columns-requires : goal.write_columns-requires
write_columns-requires c = let w = is_table_well_formed is_allowed_statement most_statements c.args.statements.now c.requires.statements_value in let few = statement-count c.args.statements.now w in
    record { closure_len = (c.fill_rows.auto.closure ∙ c.requires.closure_len, omega (arith, few.0, c.no_columns-columns.ensures, c.columns-ns.auto.columns, c.columns-ns.ensures.few), omega (arith, few.0, c.columns-ns.ensures.few), c.classes-nc.ensures.within); by_index = c.columns-ns.ensures.small }

pub returns : goal.returns
returns c = let w = is_table_well_formed is_allowed_statement most_statements c.args.statements.now c.requires.statements_value in let few = statement-count c.args.statements.now w in closure_made c.args.statements.now w _ _ _ _ _ c.columns-ns.ensures c.classes-nc.ensures c.fill_rows.ensures c.write_columns.ensures (c.write_columns.auto.closure ∙ c.fill_rows.auto.closure ∙ c.requires.closure_len)
