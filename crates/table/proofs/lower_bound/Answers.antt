use native.Mathlib.Omega.{arith}
use Prim.Native.Nat.{◌/◌, ◌<◌}
use Rattle.table.proofs.SearchLaws.{between-counted, between_none, halved, halved-less}
use Rattle.table.proofs.lower_bound.Goals as goal

pub loop-left-init : goal.loop-left-init
loop-left-init c = between-counted c.args.t.now c.args.n c.args.x _ _ c.requires.between

pub loop-left-smaller : goal.loop-left-smaller
loop-left-smaller c = let h : c.loop-left.left / 2 < c.loop-left.left = omega (arith, c.loop-left-test.true) in rw c.pick-left.ensures (halved-less _ _ c.is_below-below.result h)

pub loop-left-preserved : goal.loop-left-preserved
loop-left-preserved c = rw (c.pick-left.ensures, c.pick-lo.ensures) (halved c.args.t.now c.args.n c.args.x c.requires.rising _ _ _ _ c.loop-left.invariant (omega arith) c.is_below-below.ensures)

pub returns : goal.returns
returns c = between_none c.args.t.now c.args.n c.args.x _ _ c.loop-left-test.false c.loop-left.invariant
