use native.Mathlib.Omega.{arith}
use Rattle.closure_rows.proofs.RowLaws.{uniting_end}
use Rattle.closure_rows.proofs.unite.Goals as goal

pub returns : goal.returns
returns c = uniting_end _ _ _ _ _ c.loop-w.invariant (omega arith)
