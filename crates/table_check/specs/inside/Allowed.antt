-- The rows of each kind of table. Definitions only.
use Rattle.std.specs.Prelude.{Bool, true, false}
use Rattle.spec.specs.declared.Triple.{Triple}
use Rattle.spec.specs.Terms.{is_allowed_statement, is_allowed_fact}

-- Which rows may stand in a table: statements, or facts.
abbrev pub allowed_in : Bool → Triple → Bool
allowed_in true = is_allowed_statement
allowed_in false = is_allowed_fact
