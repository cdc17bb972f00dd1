-- What `put` and `finish` ask of the output. Definitions only.
use Rattle.std.specs.Prelude.{ℕ, ◌+◌, ◌*◌, ◌≤◌, List, length}
use Rattle.rows_distinct.specs.declared.Collected.{Collected}

-- The rows that are counted lie within the output.
abbrev pub Within : ℕ → List ℕ → Collected → Type 0
Within m out c = (c.sorted + c.added) * m ≤ length out
