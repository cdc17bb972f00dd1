-- By the tests of `are_formed`, one by one; a well-formed table has a word for its count.
use mathlib.Core.Path.{sym, ◌∙◌}
use native.Mathlib.Omega.{arith}
use Rattle.spec.specs.Terms.{is_allowed_fact}
use Rattle.spec.specs.Tables.{are_formed, most_facts, most_kept}
use Rattle.spec.proofs.TableFormed.{some_word}
use Rattle.table_check.proofs.is_store.Goals as goal

pub returns-then-not-is_statement_table : goal.returns-then-not-is_statement_table
unfolding are_formed
returns-then-not-is_statement_table c = let statements = sym c.is_statement_table.ensures ∙ c.if-not-is_statement_table.true in
    rw statements

pub returns-then-not-is_fact_table : goal.returns-then-not-is_fact_table
unfolding are_formed
returns-then-not-is_fact_table c = let statements = sym c.is_statement_table.ensures ∙ c.if-not-is_statement_table.false in
    let facts = sym c.is_fact_table.ensures ∙ c.if-not-is_fact_table.true in
    rw (statements, facts)

pub returns-then-not-is_kept_table : goal.returns-then-not-is_kept_table
unfolding are_formed
returns-then-not-is_kept_table c = let statements = sym c.is_statement_table.ensures ∙ c.if-not-is_statement_table.false in
    let facts = sym c.is_fact_table.ensures ∙ c.if-not-is_fact_table.false in
    let kept = sym c.is_kept_table.ensures ∙ c.if-not-is_kept_table.true in
    rw (statements, facts, kept)

pub bounds-facts-0 : goal.bounds-facts-0
bounds-facts-0 c = let facts = sym c.is_fact_table.ensures ∙ c.if-not-is_fact_table.false in
    some_word is_allowed_fact most_facts c.args.facts.now facts

pub overflow_cast-facts : goal.overflow_cast-facts
overflow_cast-facts c = omega (arith, c.type_inv.facts 0)

pub bounds-kept-0 : goal.bounds-kept-0
bounds-kept-0 c = let kept = sym c.is_kept_table.ensures ∙ c.if-not-is_kept_table.false in
    some_word is_allowed_fact most_kept c.args.kept.now kept

pub overflow_cast-kept : goal.overflow_cast-kept
overflow_cast-kept c = omega (arith, c.type_inv.kept 0)

pub returns : goal.returns
unfolding are_formed
returns c = let statements = sym c.is_statement_table.ensures ∙ c.if-not-is_statement_table.false in
    let facts = sym c.is_fact_table.ensures ∙ c.if-not-is_fact_table.false in
    let kept = sym c.is_kept_table.ensures ∙ c.if-not-is_kept_table.false in
    rw (statements, facts, kept) c.is_support_table.ensures
