-- `is_last` is true only where the row is among the rows: it is the last of them.
use native.Mathlib.Omega.{arith}
use Rattle.rows_single.proofs.Search.{last-member}
use Rattle.rows_distinct.proofs.is_last.Goals as goal

pub returns : goal.returns
returns c = λ e. last-member _ _ _ _ (omega arith) (c.is_same.ensures e)
