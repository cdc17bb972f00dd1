-- Questions 2 and 3, as the code asks them. Assumes nothing.
use mathlib.Core.Path.{sym, ◌∙◌}
use Rattle.table.proofs.Store.{formed_is_store}
use Rattle.spec.proofs.Outcomes.{update_no_triple, update_wrong_sides}
use Rattle.store.proofs.Passing.{fact_allowed, statement_allowed, sides-asked}
use Rattle.store.proofs.update_formed.Goals as goal

pub returns-then-not-is_triple : goal.returns-then-not-is_triple
returns-then-not-is_triple c = sym (update_no_triple _ _ _ (formed_is_store c.requires) (sym c.is_triple.ensures ∙ c.if-not-is_triple.true))

pub update_fact-requires : goal.update_fact-requires
update_fact-requires c = record { formed_store = c.requires; fact_value = fact_allowed _ (sym c.is_triple.ensures ∙ c.if-not-is_triple.false) (sym c.is_statement.ensures ∙ c.if-not-is_statement.true) }

pub returns-then-not-are_sides_allowed : goal.returns-then-not-are_sides_allowed
returns-then-not-are_sides_allowed c = sym (update_wrong_sides _ _ _ (formed_is_store c.requires) (sym c.is_triple.ensures ∙ c.if-not-is_triple.false) (sides-asked _ (sym c.is_statement.ensures ∙ c.if-not-is_statement.false) (sym c.are_sides_allowed.ensures ∙ c.if-not-are_sides_allowed.true)))

pub update_statement-requires : goal.update_statement-requires
update_statement-requires c = record { formed_store = c.requires; statement_value = statement_allowed _ (sym c.is_triple.ensures ∙ c.if-not-is_triple.false) (sym c.is_statement.ensures ∙ c.if-not-is_statement.false) (sym c.are_sides_allowed.ensures ∙ c.if-not-are_sides_allowed.false) }
