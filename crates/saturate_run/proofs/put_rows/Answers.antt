use mathlib.Core.Path.{◌∙◌}
use native.Mathlib.Omega.{arith}
use Rattle.spec.specs.Tables.{count}
use Rattle.saturate_run.proofs.Running.{run-start, run-thing, run-subjects, run-objects, run-less, run_more, run_end}
use Rattle.saturate_run.proofs.put_rows.Goals as goal

pub loop-x-init : goal.loop-x-init
loop-x-init c = run-start c.args.f.now c.args.ix.now (count c.args.f.now) c.requires.facts c.requires.once c.requires.sorted c.requires.index.below c.args.statements.now c.args.sizes.statements c.args.domains.now c.args.ranges.now c.args.keys.now c.args.sizes.classes c.args.sizes.columns c.args.room _

pub subject_end-e-requires : goal.subject_end-e-requires
subject_end-e-requires c = omega (arith, c.loop-x.invariant.subjects, c.requires.facts.fit)

pub object_end-h-requires : goal.object_end-h-requires
object_end-h-requires c = record { j_le_n = c.loop-x.invariant.objects; index = c.requires.index }

pub subject_rows-out-requires : goal.subject_rows-out-requires
subject_rows-out-requires c = record {
  prepared = c.requires.prepared;
  facts = c.requires.facts;
  index = c.requires.index;
  once = c.requires.once;
  small = c.requires.small;
  range = run-subjects c.args.f.now c.args.ix.now (count c.args.f.now) c.requires.facts c.requires.once c.requires.sorted c.requires.index.below c.args.statements.now c.args.sizes.statements c.args.domains.now c.args.ranges.now c.args.keys.now c.args.sizes.classes c.args.sizes.columns c.args.room _ _ _ _ _ c.loop-x.invariant (c.in-Ok.ensures.1 ∙ c.next_subject.ensures) (omega (arith, c.in-Ok.ensures.0)) _ c.subject_end-e.ensures;
  range_2 = run-objects c.args.f.now c.args.ix.now (count c.args.f.now) c.requires.facts c.requires.once c.requires.sorted c.requires.index.below c.args.statements.now c.args.sizes.statements c.args.domains.now c.args.ranges.now c.args.keys.now c.args.sizes.classes c.args.sizes.columns c.args.room _ _ _ _ _ c.loop-x.invariant (c.in-Ok.ensures.1 ∙ c.next_subject.ensures) (omega (arith, c.in-Ok.ensures.0)) _ c.object_end-h.ensures;
  term_value = run-thing c.args.f.now c.args.ix.now (count c.args.f.now) c.requires.facts c.requires.once c.requires.sorted c.requires.index.below c.args.statements.now c.args.sizes.statements c.args.domains.now c.args.ranges.now c.args.keys.now c.args.sizes.classes c.args.sizes.columns c.args.room _ _ _ _ _ c.loop-x.invariant (c.in-Ok.ensures.1 ∙ c.next_subject.ensures) (omega (arith, c.in-Ok.ensures.0));
  in_bounds = omega (arith, c.object_end-h.array_long);
  room_in_bounds = omega (arith, c.requires.room_in_bounds);
}

pub loop-x-smaller : goal.loop-x-smaller
loop-x-smaller c = run-less c.args.f.now c.args.ix.now (count c.args.f.now) c.requires.facts c.requires.once c.requires.sorted c.requires.index.below c.args.statements.now c.args.sizes.statements c.args.domains.now c.args.ranges.now c.args.keys.now c.args.sizes.classes c.args.sizes.columns c.args.room _ _ _ _ _ c.loop-x.invariant (c.in-Ok.ensures.1 ∙ c.next_subject.ensures) (omega (arith, c.in-Ok.ensures.0)) _ _ c.subject_end-e.ensures c.object_end-h.ensures

pub loop-x-preserved : goal.loop-x-preserved
loop-x-preserved c = run_more c.args.f.now c.args.ix.now (count c.args.f.now) c.requires.facts c.requires.once c.requires.sorted c.requires.index.below c.args.statements.now c.args.sizes.statements c.args.domains.now c.args.ranges.now c.args.keys.now c.args.sizes.classes c.args.sizes.columns c.args.room _ _ _ _ _ c.loop-x.invariant (c.in-Ok.ensures.1 ∙ c.next_subject.ensures) (omega (arith, c.in-Ok.ensures.0)) _ _ _ c.subject_end-e.ensures c.object_end-h.ensures c.subject_rows-out.ensures

pub returns : goal.returns
returns c = λ K a s. run_end c.args.f.now c.args.ix.now (count c.args.f.now) c.requires.facts c.requires.once c.requires.sorted c.requires.index.below c.args.statements.now c.args.sizes.statements c.args.domains.now c.args.ranges.now c.args.keys.now c.args.sizes.classes c.args.sizes.columns c.args.room _ _ _ _ c.loop-x.invariant (omega (arith, c.next_subject.ensures, c.in_default.ensures)) K a s
