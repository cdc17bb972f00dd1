-- Question 1, as the code asks it. Assumes nothing.
use mathlib.Core.Path.{sym, ◌∙◌}
use Rattle.table.proofs.Store.{is_store_formed}
use Rattle.spec.proofs.Outcomes.{update_malformed}
use Rattle.store.proofs.update.Goals as goal

pub returns-then-not-is_store : goal.returns-then-not-is_store
returns-then-not-is_store c = sym (update_malformed _ _ _ (sym c.is_store.ensures ∙ c.if-not-is_store.true))

pub update_formed-requires : goal.update_formed-requires
update_formed-requires c = is_store_formed _ _ _ _ (sym c.is_store.ensures ∙ c.if-not-is_store.false)
