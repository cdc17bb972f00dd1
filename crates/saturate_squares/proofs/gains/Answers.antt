use native.Mathlib.Omega.{arith}
use Rattle.saturate_schema.specs.inside.Squares.{at}
use Rattle.saturate_schema.proofs.Squares.{gained_more}
use Rattle.saturate_squares.proofs.gains.Goals as goal

pub loop-c-preserved : goal.loop-c-preserved
loop-c-preserved c = gained_more (at c.args.square.now) c.loop-c.gain _ _ _ _ _ c.loop-c.invariant (omega arith) c.gain_bit.ensures
