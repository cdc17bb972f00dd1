use mathlib.Core.Path.{◌≡◌, ◌∙◌}
use native.Mathlib.Omega.{arith}
use Rattle.saturate_counts.proofs.Adding.{added_none, added_more}
use Rattle.saturate_counts.proofs.add_either.Goals as goal

pub loop-c-init : goal.loop-c-init
loop-c-init c = added_none _ _

pub overflow_add-counts : goal.overflow_add-counts
overflow_add-counts c = omega (arith, c.requires.by_index c.loop-c.c (omega arith), c.loop-c.invariant.above c.loop-c.c (omega arith), c.either_bit.ensures)

pub loop-c-preserved : goal.loop-c-preserved
loop-c-preserved c = added_more _ _ _ _ _ c.loop-c.invariant (omega arith) (c.from.ensures ∙ c.either_bit.ensures)

pub returns : goal.returns
returns c = let e : c.loop-c.c ≡ c.args.end = omega arith in rw e at c.loop-c.invariant
