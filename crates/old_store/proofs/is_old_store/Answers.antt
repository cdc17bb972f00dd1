-- By the tests of `is_old_store`, one by one; a well-formed table has a word for its count.
use mathlib.Core.Path.{sym, ◌∙◌}
use Rattle.spec.specs.Terms.{is_allowed_fact}
use Rattle.spec.proofs.TableFormed.{some_word}
use Rattle.old_store.specs.CarryingOver.{old_facts, old_kept, is_old_store}
use Rattle.old_store.proofs.is_old_store.Goals as goal

pub returns-then-not-is_table : goal.returns-then-not-is_table
unfolding is_old_store
returns-then-not-is_table c = let statements = sym c.is_table.ensures ∙ c.if-not-is_table.true in
    rw statements

pub returns-then-not-is_table-2 : goal.returns-then-not-is_table-2
unfolding is_old_store
returns-then-not-is_table-2 c = let statements = sym c.is_table.ensures ∙ c.if-not-is_table.false in
    let facts = sym c.is_table-2.ensures ∙ c.if-not-is_table-2.true in
    rw (statements, facts)

pub returns-then-not-is_table-3 : goal.returns-then-not-is_table-3
unfolding is_old_store
returns-then-not-is_table-3 c = let statements = sym c.is_table.ensures ∙ c.if-not-is_table.false in
    let facts = sym c.is_table-2.ensures ∙ c.if-not-is_table-2.false in
    let kept = sym c.is_table-3.ensures ∙ c.if-not-is_table-3.true in
    rw (statements, facts, kept)

pub bounds-facts-0 : goal.bounds-facts-0
bounds-facts-0 c = let facts = sym c.is_table-2.ensures ∙ c.if-not-is_table-2.false in
    some_word is_allowed_fact old_facts c.args.facts.now facts

pub bounds-kept-0 : goal.bounds-kept-0
bounds-kept-0 c = let kept = sym c.is_table-3.ensures ∙ c.if-not-is_table-3.false in
    some_word is_allowed_fact old_kept c.args.kept.now kept

pub returns : goal.returns
unfolding is_old_store
returns c = let statements = sym c.is_table.ensures ∙ c.if-not-is_table.false in
    let facts = sym c.is_table-2.ensures ∙ c.if-not-is_table-2.false in
    let kept = sym c.is_table-3.ensures ∙ c.if-not-is_table-3.false in
    rw (statements, facts, kept) c.is_support_table.ensures
