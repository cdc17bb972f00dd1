-- The invariant: of the rows from a on the answer is the one so far and that of the rows from i on.
use mathlib.Core.Path.{◌≡◌}
use mathlib.Core.Bool.{◌&&◌}
use Rattle.spec.specs.Terms.{is_allowed_fact}
use Rattle.table_rows.specs.inside.Rows.{are_rows_from}
use Rattle.table_rows.proofs.are_facts_between.Given as goal

abbrev pub invariant-loop-i : goal.invariant-loop-i
invariant-loop-i l = are_rows_from is_allowed_fact l.t l.b l.a ≡ (l.ok && are_rows_from is_allowed_fact l.t l.b l.i)
