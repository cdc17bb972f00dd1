-- What a listing asks of a table. Definitions only.
use Rattle.std.specs.Prelude.{ℕ, List}
use Rattle.spec.specs.inside.Comparison.{Ascending}
use Rattle.spec.specs.Tables.{rows}
use Rattle.spec.specs.inside.Laid.{Laid}

-- A table whose rows can be listed: it is laid out, and its rows ascend, so that they are distinct.
pub record Listable (ws : List ℕ) : Type 0 where
  pub laid : Laid ws
  pub ascends : Ascending (rows ws)
