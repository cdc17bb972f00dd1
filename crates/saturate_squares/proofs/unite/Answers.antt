use native.Mathlib.Omega.{arith}
use Rattle.saturate_schema.proofs.Squares.{united_start, united_more}
use Rattle.saturate_squares.proofs.unite.Goals as goal

pub loop-c-init : goal.loop-c-init
loop-c-init c = united_start _ _ _

pub loop-c-preserved : goal.loop-c-preserved
loop-c-preserved c = united_more _ c.loop-c.square c.args.gain.now _ _ _ c.loop-c.invariant (omega arith) (omega arith) c.joined.ensures.0 c.joined.ensures.1
