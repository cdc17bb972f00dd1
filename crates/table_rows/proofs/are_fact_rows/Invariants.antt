-- The invariant: of all rows the answer is that of the rows from i on.
use Prim.Native.Nat.{◌-◌, ◌≤◌, ◌<◌}
use mathlib.Core.Path.{◌≡◌}
use Rattle.spec.specs.Terms.{is_allowed_fact}
use Rattle.table_rows.specs.inside.Rows.{are_rows_from}
use Rattle.table_rows.proofs.are_fact_rows.Given as goal

abbrev pub invariant-loop-i : goal.invariant-loop-i
invariant-loop-i l = (0 < l.i) × (l.i ≤ l.n) × (are_rows_from is_allowed_fact l.t l.n 0 ≡ are_rows_from is_allowed_fact l.t l.n l.i)

abbrev pub decreases-loop-i : goal.decreases-loop-i
decreases-loop-i l = l.n - l.i
