use borrow.Author.Tests.{not-true, not-false}
use mathlib.Core.Path.{refl, sym, ◌∙◌}
use native.Mathlib.Omega.{arith}
use Prim.Native.Nat.{◌-◌}
use Rattle.table.proofs.Store.{is_store_formed, formed_is_store}
use Rattle.spec.specs.declared.Change.TheVariants.{Withdrawal}
use Rattle.spec.proofs.Outcomes.{update_malformed}
use Rattle.delivery_format.proofs.Whole.{whole_length}
use Rattle.delivery_withdrawals.proofs.Lowered.{formed-bound}
use Rattle.delivery_section.proofs.Runs.{left_first, left_tested, left-next, at-entry_first, at-entry-next, left_none, left_refused}
use Rattle.delivery_withdrawals.proofs.withdraw_facts.Goals as goal

pub section_start-start-requires : goal.section_start-start-requires
section_start-start-requires c = omega (arith, c.requires.next.entries)

pub short_at-entries-requires : goal.short_at-entries-requires
short_at-entries-requires c = omega (arith, c.requires.next.entries, c.section_start-start.ensures.upper_bound)

pub bounds-facts-0 : goal.bounds-facts-0
bounds-facts-0 c = omega (arith, c.requires.formed_store.facts.laid.fits)

pub overflow_cast-most : goal.overflow_cast-most
overflow_cast-most c = omega (arith, c.type_inv.facts 0)

pub loop-i-init : goal.loop-i-init
loop-i-init c = (at-entry_first (left_first _ _ _ _ c.args.k c.section_start-start.result _ _ c.requires.next c.requires.k_value c.section_start-start.ensures.value c.short_at-entries.ensures.value), c.requires.formed_store, record { same_statements = refl; same_facts = refl; same_kept = refl; same_supports = refl }, formed-bound c.requires.formed_store)

pub entry_at-fact-requires : goal.entry_at-fact-requires
entry_at-fact-requires c = omega (arith, c.loop-i.invariant.0.inside, c.loop-i-test.true)

pub withdraw_fact-step-requires : goal.withdraw_fact-step-requires
withdraw_fact-step-requires c = record { formed_store = c.loop-i.invariant.1; fact_value = left_tested (c.short_at-entries.result - c.loop-i.i) c.loop-i.invariant.0 (omega arith) c.entry_at-fact.result c.entry_at-fact.ensures; supports_bound = c.loop-i.invariant.3 }

pub tallied-sum-requires : goal.tallied-sum-requires
tallied-sum-requires c = omega (arith, c.loop-i.invariant.0.room, c.loop-i-test.true)

pub refused-requires : goal.refused-requires
refused-requires c = (left-next (c.short_at-entries.result - c.loop-i.i) c.loop-i.invariant.0 (omega arith) c.entry_at-fact.result c.entry_at-fact.ensures c.withdraw_fact-step.result.answer c.withdraw_fact-step.ensures.supports_after c.tallied-sum.ensures).room

pub shape_of-statements-then-not-step : goal.shape_of-statements-then-not-step
shape_of-statements-then-not-step c = c.withdraw_fact-step.auto.statements ∙ c.loop-i.invariant.2.same_statements

pub shape_of-facts-then-not-step : goal.shape_of-facts-then-not-step
shape_of-facts-then-not-step c = c.withdraw_fact-step.auto.facts ∙ c.loop-i.invariant.2.same_facts

pub shape_of-kept-then-not-step : goal.shape_of-kept-then-not-step
shape_of-kept-then-not-step c = c.withdraw_fact-step.auto.kept ∙ c.loop-i.invariant.2.same_kept

pub shape_of-supports-then-not-step : goal.shape_of-supports-then-not-step
shape_of-supports-then-not-step c = c.withdraw_fact-step.auto.supports ∙ c.loop-i.invariant.2.same_supports

pub returns-then-not-step : goal.returns-then-not-step
returns-then-not-step c = record { counted_after = left_refused _ (left-next (c.short_at-entries.result - c.loop-i.i) c.loop-i.invariant.0 (omega arith) c.entry_at-fact.result c.entry_at-fact.ensures c.withdraw_fact-step.result.answer c.withdraw_fact-step.ensures.supports_after c.tallied-sum.ensures) (λ t. update_malformed Withdrawal _ t (sym c.withdraw_fact-step.ensures.formed_value ∙ not-true _ c.if-not-step.true)) c.refused.ensures; formed_value = sym (sym c.withdraw_fact-step.ensures.formed_value ∙ not-true _ c.if-not-step.true) }

pub loop-i-preserved : goal.loop-i-preserved
loop-i-preserved c = (at-entry-next _ _ c.loop-i.i (left-next (c.short_at-entries.result - c.loop-i.i) c.loop-i.invariant.0 (omega arith) c.entry_at-fact.result c.entry_at-fact.ensures c.withdraw_fact-step.result.answer c.withdraw_fact-step.ensures.supports_after c.tallied-sum.ensures), is_store_formed _ _ _ _ (sym c.withdraw_fact-step.ensures.formed_value ∙ not-false _ c.if-not-step.false), record { same_statements = c.withdraw_fact-step.auto.statements ∙ c.loop-i.invariant.2.same_statements; same_facts = c.withdraw_fact-step.auto.facts ∙ c.loop-i.invariant.2.same_facts; same_kept = c.withdraw_fact-step.auto.kept ∙ c.loop-i.invariant.2.same_kept; same_supports = c.withdraw_fact-step.auto.supports ∙ c.loop-i.invariant.2.same_supports }, c.withdraw_fact-step.ensures.supports_bound_2)

pub shape_of-statements : goal.shape_of-statements
shape_of-statements c = c.loop-i.invariant.2.same_statements

pub shape_of-facts : goal.shape_of-facts
shape_of-facts c = c.loop-i.invariant.2.same_facts

pub shape_of-kept : goal.shape_of-kept
shape_of-kept c = c.loop-i.invariant.2.same_kept

pub shape_of-supports : goal.shape_of-supports
shape_of-supports c = c.loop-i.invariant.2.same_supports

pub returns : goal.returns
returns c = record { counted_after = left_none (c.short_at-entries.result - c.loop-i.i) c.loop-i.invariant.0 (omega arith); formed_value = sym (formed_is_store c.loop-i.invariant.1) }
