use mathlib.Core.Path.{refl}
use native.Mathlib.Omega.{arith}
use Rattle.spec.specs.Tables.{count}
use Rattle.saturate_merge.specs.inside.Output.{output}
use Rattle.saturate_subject.proofs.Plain.{one_subject}
use Rattle.saturate_blocks.proofs.Gathering.{facts_from}
use Rattle.saturate_subject.proofs.Properties.{passed_start, passed_skip, passed_more, passed_end}
use Rattle.saturate_subject.proofs.property_rows.Goals as goal
use Rattle.saturate_subject.proofs.property_rows.Goals.{then-counts-c-gt0, else-counts-c-gt0}

pub loop-c-init : goal.loop-c-init
loop-c-init c = passed_start c.args.statements.now c.args.task.sizes.statements c.args.domains.now c.args.keys.now c.args.task.sizes.classes c.args.task.sizes.columns c.args.counts.now c.args.f.now (count c.args.f.now) c.args.task.own.term c.args.t c.args.task.own.end c.args.task.room (output c.args.kept.now c.args.supports.now c.args.task.rows) c.requires.keys c.requires.facts c.requires.statements_bound.1 c.requires.statements_bound.2 c.requires.of c.requires.by_index c.requires.uncounted

pub first_from-z-requires : goal.first_from-z-requires
first_from-z-requires c = record { q_le_e = omega (arith, c.loop-c.invariant.fact_high, c.requires.statements_bound, c.requires.facts.fit); one_subject = facts_from c.args.f.now _ _ _ c.loop-c.invariant.fact_low (one_subject c.args.f.now (count c.args.f.now) c.args.task.own.term c.args.t c.args.task.own.end c.requires.facts c.requires.statements_bound.2 c.requires.of) }

pub put_facts-n-requires : goal.put_facts-n-requires
put_facts-n-requires c = record { b_in_bounds = omega (arith, c.first_from-z.ensures.high, c.requires.statements_bound, c.requires.facts.fit); room_in_bounds = omega (arith, c.requires.room_in_bounds) }

pub overflow_add-wide : goal.overflow_add-wide
overflow_add-wide c = omega (arith, c.wide-then-counts-c-gt0.ensures.0, c.requires.keys.small c.loop-c.c (omega arith))

pub first_from-q-requires : goal.first_from-q-requires
first_from-q-requires c = record { q_le_e = omega (arith, c.first_from-z.ensures.high, c.requires.statements_bound, c.requires.facts.fit); one_subject = facts_from c.args.f.now _ _ _ (omega (arith, c.loop-c.invariant.fact_low, c.first_from-z.ensures.low)) (one_subject c.args.f.now (count c.args.f.now) c.args.task.own.term c.args.t c.args.task.own.end c.requires.facts c.requires.statements_bound.2 c.requires.of) }

pub column_rows-n-requires : goal.column_rows-n-requires
column_rows-n-requires c = record { statements = c.requires.statements; statements_bound = omega (arith, c.requires.statements_bound, c.requires.facts.fit, c.requires.keys.columns); square = c.requires.square; one_subject = (one_subject c.args.f.now (count c.args.f.now) c.args.task.own.term c.args.t c.args.task.own.end c.requires.facts c.requires.statements_bound.2 c.requires.of); first_le_from = (omega (arith, c.loop-c.invariant.fact_low, c.first_from-z.ensures.low), c.first_from-q.ensures.low, c.first_from-q.ensures.high, λ y l u. omega (arith, c.first_from-z.ensures.after y l (omega (arith, c.first_from-q.ensures.high)), c.first_from-q.ensures.before y l u, c.wide.ensures.0, c.wide-then-counts-c-gt0.ensures.0)); room_in_bounds = omega (arith, c.put_facts-n.auto.kept, c.put_facts-n.auto.supports, c.requires.room_in_bounds) }

pub loop-c-preserved : goal.loop-c-preserved
loop-c-preserved c = elim c.if-counts-c-gt0.branch [
  | then-counts-c-gt0 w ↦ rw (w.kept-is, w.supports-is, w.n-is, w.q-is) (passed_more c.args.statements.now c.args.task.sizes.statements c.args.domains.now c.args.keys.now c.args.task.sizes.classes c.args.task.sizes.columns c.args.counts.now c.args.f.now (count c.args.f.now) c.args.task.own.term c.args.t c.args.task.own.end c.args.task.room (output c.args.kept.now c.args.supports.now c.args.task.rows) c.requires.keys c.requires.facts c.requires.statements_bound.1 c.requires.statements_bound.2 c.requires.of c.requires.by_index c.requires.uncounted _ _ _ _ _ _ _ _ c.loop-c.invariant (omega arith) refl (rw w.wide.ensures.0 at w.first_from-z.ensures) (rw w.wide-then-counts-c-gt0.ensures.0 at w.first_from-q.ensures) w.put_facts-n.ensures w.column_rows-n.ensures)
  | else-counts-c-gt0 w ↦ rw (w.kept-is, w.supports-is, w.n-is, w.q-is) (passed_skip c.args.statements.now c.args.task.sizes.statements c.args.domains.now c.args.keys.now c.args.task.sizes.classes c.args.task.sizes.columns c.args.counts.now c.args.f.now (count c.args.f.now) c.args.task.own.term c.args.t c.args.task.own.end c.args.task.room (output c.args.kept.now c.args.supports.now c.args.task.rows) c.requires.keys c.requires.facts c.requires.statements_bound.1 c.requires.statements_bound.2 c.requires.of c.requires.by_index c.requires.uncounted _ _ _ c.loop-c.invariant (omega arith) (omega (arith, w.if-counts-c-gt0.false)))
]

pub put_facts-requires : goal.put_facts-requires
put_facts-requires c = record { b_in_bounds = omega (arith, c.requires.statements_bound, c.requires.facts.fit); room_in_bounds = omega (arith, c.requires.room_in_bounds) }

pub returns : goal.returns
returns c = λ K a h. passed_end c.args.statements.now c.args.task.sizes.statements c.args.domains.now c.args.keys.now c.args.task.sizes.classes c.args.task.sizes.columns c.args.counts.now c.args.f.now (count c.args.f.now) c.args.task.own.term c.args.t c.args.task.own.end c.args.task.room (output c.args.kept.now c.args.supports.now c.args.task.rows) c.requires.keys c.requires.facts c.requires.statements_bound.1 c.requires.statements_bound.2 c.requires.of c.requires.by_index c.requires.uncounted _ _ _ _ c.loop-c.invariant (omega arith) c.put_facts.ensures K a h
