use mathlib.Core.Path.{sym, ap₂, ◌∙◌}
use Prim.Native.Nat.{ℕ}
use native.Mathlib.Omega.{arith}
use Rattle.saturate_merge.specs.inside.Streams.{lesser_of}
use Rattle.saturate_merge.proofs.Streams.{least_more, least_none, lesser-min}
use Rattle.saturate_merge.proofs.least.Goals as goal

pub loop-y-init : goal.loop-y-init
loop-y-init c = sym (least_none _ _)

pub front-requires : goal.front-requires
front-requires c = c.requires.1 c.loop-y.y (omega arith)

pub loop-y-preserved : goal.loop-y-preserved
loop-y-preserved c = c.min-best.ensures ∙ lesser-min _ _ ∙ ap₂ (λ (a b : ℕ). lesser_of a b) c.front.ensures c.loop-y.invariant ∙ sym (least_more _ _ _)
