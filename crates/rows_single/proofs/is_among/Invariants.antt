-- `is_among` halves the rows between those known to be below the row and those known not to be.
use Prim.Native.Nat.{◌-◌}
use Rattle.rows.specs.inside.Rows.{row_at}
use Rattle.rows.specs.inside.Rows as sorted-rows
use Rattle.rows_single.proofs.Search.{SearchLoop}
use Rattle.rows_single.proofs.is_among.Given as goal

abbrev pub invariant-loop-lo : goal.invariant-loop-lo
invariant-loop-lo l = SearchLoop (row_at l.m l.out) l.n (sorted-rows.row l.m 0 l.row) l.lo l.hi

abbrev pub decreases-loop-lo : goal.decreases-loop-lo
decreases-loop-lo l = l.hi - l.lo
