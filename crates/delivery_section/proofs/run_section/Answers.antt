use Prim.Native.Nat.{◌-◌}
use mathlib.Core.Path.{refl, ◌∙◌}
use native.Mathlib.Omega.{arith}
use Rattle.delivery_format.proofs.Whole.{whole_length}
use Rattle.delivery_section.proofs.Formed.{stays_formed}
use Rattle.delivery_section.proofs.Runs.{left_first, left_tested, left-next, at-entry_first, at-entry-next, left_none}
use Rattle.delivery_section.proofs.run_section.Goals as goal

pub section_start-start-requires : goal.section_start-start-requires
section_start-start-requires c = omega (arith, c.requires.next.entries)

pub short_at-entries-requires : goal.short_at-entries-requires
short_at-entries-requires c = omega (arith, c.requires.next.entries, c.section_start-start.ensures.upper_bound)

pub loop-i-init : goal.loop-i-init
loop-i-init c = (at-entry_first (left_first _ _ _ _ c.args.k c.section_start-start.result _ _ c.requires.next c.requires.k_value c.section_start-start.ensures.value c.short_at-entries.ensures.value), c.requires.formed_store, record { same_statements = refl; same_facts = refl; same_kept = refl; same_supports = refl })

pub entry_at-triple-requires : goal.entry_at-triple-requires
entry_at-triple-requires c = omega (arith, c.loop-i.invariant.0.inside, c.loop-i-test.true)

pub update_formed-answer-requires : goal.update_formed-answer-requires
update_formed-answer-requires c = c.loop-i.invariant.1

pub tallied-sum-requires : goal.tallied-sum-requires
tallied-sum-requires c = omega (arith, c.loop-i.invariant.0.room, c.loop-i-test.true)

pub loop-i-preserved : goal.loop-i-preserved
loop-i-preserved c = (
  at-entry-next _ _ c.loop-i.i (left-next (c.short_at-entries.result - c.loop-i.i) c.loop-i.invariant.0 (omega arith) c.entry_at-triple.result c.entry_at-triple.ensures c.update_formed-answer.result c.update_formed-answer.ensures c.tallied-sum.ensures),
  stays_formed c.args.change c.update_formed-answer.result c.entry_at-triple.result (left_tested (c.short_at-entries.result - c.loop-i.i) c.loop-i.invariant.0 (omega arith) c.entry_at-triple.result c.entry_at-triple.ensures) c.loop-i.invariant.1 c.update_formed-answer.ensures,
  record { same_statements = c.update_formed-answer.auto.statements ∙ c.loop-i.invariant.2.same_statements; same_facts = c.update_formed-answer.auto.facts ∙ c.loop-i.invariant.2.same_facts; same_kept = c.update_formed-answer.auto.kept ∙ c.loop-i.invariant.2.same_kept; same_supports = c.update_formed-answer.auto.supports ∙ c.loop-i.invariant.2.same_supports },
)

pub shape_of-statements : goal.shape_of-statements
shape_of-statements c = c.loop-i.invariant.2.same_statements

pub shape_of-facts : goal.shape_of-facts
shape_of-facts c = c.loop-i.invariant.2.same_facts

pub shape_of-kept : goal.shape_of-kept
shape_of-kept c = c.loop-i.invariant.2.same_kept

pub shape_of-supports : goal.shape_of-supports
shape_of-supports c = c.loop-i.invariant.2.same_supports

pub returns : goal.returns
returns c = record { result_after = left_none (c.short_at-entries.result - c.loop-i.i) c.loop-i.invariant.0 (omega arith); formed_store_2 = c.loop-i.invariant.1 }
