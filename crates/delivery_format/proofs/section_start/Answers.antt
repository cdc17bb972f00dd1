use mathlib.Core.Path.{refl}
use native.Mathlib.Omega.{arith}
use Rattle.spec.specs.computed.Decoded.{section_start}
use Rattle.delivery_format.proofs.Walk.{start_more, start_end}
use Rattle.delivery_format.proofs.section_start.Goals as goal

pub loop-init : goal.loop-init
unfolding section_start
loop-init c = (refl, omega arith)

pub loop-preserved : goal.loop-preserved
loop-preserved c = (start_more c.args.bytes.now c.loop.counter c.loop.at _ c.loop.invariant.0 c.section_end-at.ensures.value, omega arith)

pub returns : goal.returns
returns c =
    let both = start_end c.args.bytes.now c.loop.counter c.args.k c.loop.at (omega arith) (omega arith) c.loop.invariant.0 c.loop.invariant.1 in
    record { value = both.0; upper_bound = both.1 }
