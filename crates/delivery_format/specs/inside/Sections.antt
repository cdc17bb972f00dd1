-- Which entries are right for a section. Definitions only.
use Rattle.std.specs.Prelude.{Bool, true, false}
use Rattle.spec.specs.declared.Triple.{Triple}
use Rattle.spec.specs.Terms.{is_statement}
use Rattle.spec.specs.Deliveries.{is_fact}

-- Whether an entry is right for a section of statements, or of facts.
unfoldable pub is_right_in : Bool → Triple → Bool
is_right_in true = is_statement
is_right_in false = is_fact
