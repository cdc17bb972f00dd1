use native.Mathlib.Omega.{arith}
use lib.ListN.{take}
use Rattle.delivery_supports.proofs.HighestLaws.{highest_more, highest_end}
use Rattle.delivery_supports.proofs.highest.Goals as goal

pub loop-support-init : goal.loop-support-init
loop-support-init c = omega arith

pub loop-support-preserved : goal.loop-support-preserved
loop-support-preserved c = rw (c.max-most.ensures, c.from.ensures) (highest_more (take c.args.n c.args.supports.now) c.loop-support.support-index c.loop-support.most c.loop-support-test.true c.loop-support.invariant)

pub returns : goal.returns
returns c = highest_end (take c.args.n c.args.supports.now) c.loop-support.support-index c.loop-support.most c.loop-support-test.false c.loop-support.invariant
