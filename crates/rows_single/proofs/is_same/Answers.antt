use native.Mathlib.Omega.{arith}
use Rattle.rows_single.proofs.Search.{same_row}
use Rattle.rows_single.proofs.is_same.Goals as goal

pub returns : goal.returns
returns c = λ e. same_row _ _ _ _ _ (omega arith) c.loop-k.invariant
