use native.Mathlib.Omega.{arith}
use Rattle.rows_single.proofs.Writing.{write_more, write-all}
use Rattle.rows_single.proofs.write_row.Goals as goal

pub loop-k-preserved : goal.loop-k-preserved
loop-k-preserved c = write_more _ _ _ _ _ c.loop-k.invariant (omega arith)

pub returns : goal.returns
returns c = write-all _ _ _ _ _ _ c.loop-k.invariant (omega arith) (omega arith)
