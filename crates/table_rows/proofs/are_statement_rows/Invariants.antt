-- The invariant: of all rows the answer is that of the rows from i on.
use mathlib.Core.Path.{◌≡◌}
use Rattle.spec.specs.Terms.{is_allowed_statement}
use Rattle.table_rows.specs.inside.Rows.{are_rows_from}
use Rattle.table_rows.proofs.are_statement_rows.Given as goal

abbrev pub invariant-loop-i : goal.invariant-loop-i
invariant-loop-i l = are_rows_from is_allowed_statement l.t l.n 0 ≡ are_rows_from is_allowed_statement l.t l.n l.i
