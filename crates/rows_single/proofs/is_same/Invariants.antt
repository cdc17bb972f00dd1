-- `is_same` is true only where the two rows are the same: their first k words agree.
use mathlib.Core.Path.{◌≡◌}
use Prim.Native.Nat.{ℕ, ◌+◌, ◌<◌}
use lib.ListN.{get_or}
use Rattle.rows_single.proofs.is_same.Given as goal

abbrev pub invariant-loop-k : goal.invariant-loop-k
invariant-loop-k l = (w : ℕ) → w < l.k → get_or l.t (l.p + w) 0 ≡ get_or l.row w 0
