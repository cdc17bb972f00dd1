-- The entries of a section. Definitions only.
use Rattle.std.specs.Prelude.{ℕ, Bool, List}
use Rattle.spec.specs.declared.Triple.{Triple}
use Rattle.spec.specs.Tables.{first_rows}
use Rattle.spec.specs.Lists.{select}
use Rattle.delivery_format.specs.inside.Sections.{is_right_in}

-- Those of the first n rows that are statements, or those that are facts.
unfoldable pub chosen : Bool → ℕ → List ℕ → List Triple
chosen statements n ws = select (is_right_in statements) (first_rows n ws)
