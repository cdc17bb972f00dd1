use mathlib.Core.Path.{◌≡◌, sym, ◌∙◌}
use native.Mathlib.Omega.{arith}
use Rattle.saturate_merge.proofs.Streams.{step-hit, stepping_start, stepping-hit, stepping_miss, stepping_small}
use Rattle.saturate_merge.proofs.step.Goals as goal
use Rattle.saturate_merge.proofs.step.Goals.{then-front-o, else-front-o}

pub loop-y-init : goal.loop-y-init
loop-y-init c = stepping_start _ _ _ _

pub front-requires : goal.front-requires
front-requires c = rw (c.loop-y.invariant.same_ends c.loop-y.y) (c.requires.inside.1 c.loop-y.y (omega arith))

pub overflow_add-c : goal.overflow_add-c
overflow_add-c c = omega (arith, stepping_small c.loop-y.invariant)

pub overflow_add-ends : goal.overflow_add-ends
overflow_add-ends c = omega (arith, (step-hit _ _ _ _ (omega arith) (sym c.front.ensures ∙ c.if-front-o.true)).2, c.loop-y.invariant.same_ends c.loop-y.y, c.requires.inside.1 c.loop-y.y (omega arith))

pub loop-y-preserved : goal.loop-y-preserved
loop-y-preserved c = elim c.if-front-o.branch [
  | then-front-o w ↦ rw (w.ends-is, w.c-is) (stepping-hit _ _ _ _ _ _ _ c.loop-y.invariant (omega arith) (omega (arith, c.requires.inside.0)) (omega arith) (sym c.front.ensures ∙ w.if-front-o.true))
  | else-front-o w ↦ rw (w.ends-is, w.c-is) (stepping_miss _ _ _ _ _ _ _ c.loop-y.invariant (omega arith) (λ e. w.if-front-o.false (c.front.ensures ∙ e)))
]

pub returns : goal.returns
returns c = let e : c.loop-y.y ≡ c.args.k = omega arith in
    record { value = rw (← e) c.loop-y.invariant.counted; k_after = rw (← e) c.loop-y.invariant.stepped; by_index = c.loop-y.invariant.same_ends }
