-- What the functions that count entries go by. Definitions only.
use Rattle.std.specs.Prelude.{ℕ, ◌+◌}
use Rattle.spec.specs.declared.Tally.{Tally}

-- How many entries were dealt with.
abbrev pub total : Tally → ℕ
total y = y.applied + y.idle + y.refused
