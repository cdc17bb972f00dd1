-- The invariant: the row looked for stands from lo on, at most left rows further.
use Prim.Native.Nat.{◌+◌}
use Rattle.table.specs.inside.Bounds.{Between}
use Rattle.table.proofs.lower_bound.Given as goal

abbrev pub invariant-loop-left : goal.invariant-loop-left
invariant-loop-left l = Between l.t l.n l.lo (l.lo + l.left) l.x

abbrev pub decreases-loop-left : goal.decreases-loop-left
decreases-loop-left l = l.left
