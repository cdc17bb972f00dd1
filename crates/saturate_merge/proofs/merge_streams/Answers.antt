use mathlib.Core.Path.{◌∙◌}
use native.Mathlib.Omega.{arith}
use Rattle.saturate_merge.proofs.Merging.{turn_start, turn_more, turn-less, turn_end}
use Rattle.saturate_merge.proofs.merge_streams.Goals as goal

pub loop-o-init : goal.loop-o-init
loop-o-init c = turn_start _ _ _ _ _ _ _ c.requires.inside c.requires.all_rising

pub least-requires : goal.least-requires
least-requires c = c.loop-o.invariant.fits

pub step-c-requires : goal.step-c-requires
step-c-requires c = record { inside = c.loop-o.invariant.fits; k_bound = omega arith; o_bound = omega arith }

pub loop-o-smaller : goal.loop-o-smaller
loop-o-smaller c = turn-less _ _ _ _ _ _ _ _ _ c.in-Ok.o c.loop-o.invariant (c.in-Ok.ensures.1 ∙ c.least.ensures) _ (omega (arith, c.in-Ok.ensures.0)) (rw c.wide.ensures.0 at c.step-c.ensures.k_after)

pub loop-o-preserved : goal.loop-o-preserved
loop-o-preserved c =
    let e = c.wide.ensures.0 in
    turn_more _ _ _ _ _ _ _ _ _ c.in-Ok.o c.loop-o.invariant (c.in-Ok.ensures.1 ∙ c.least.ensures) _ _ _ (omega (arith, c.in-Ok.ensures.0)) c.step-c.auto.ends (rw e at c.step-c.ensures.value) (rw e at c.step-c.ensures.k_after) c.step-c.ensures.by_index c.put-n.ensures

pub returns : goal.returns
returns c = λ K a t. turn_end _ _ _ _ _ _ _ _ _ c.least.result c.loop-o.invariant c.least.ensures (omega (arith, c.in_default.ensures)) K a t
