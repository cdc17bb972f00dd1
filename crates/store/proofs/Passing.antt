-- What the tests of an entry pass on: that the triple may stand in its table. Assumes nothing.
use mathlib.Core.Path.{◌≡◌, refl}
use mathlib.Core.Bool.{true, false, cond}
use Rattle.spec.specs.declared.Triple.{Triple}
use Rattle.spec.specs.Terms.{is_triple, is_statement, are_sides_allowed, is_allowed_statement, is_allowed_fact}

pub fact_allowed : (t : Triple) → is_triple t ≡ true → is_statement t ≡ false → is_allowed_fact t ≡ true
unfolding is_allowed_fact
fact_allowed t e f = rw (e, f) refl

pub statement_allowed : (t : Triple) → is_triple t ≡ true → is_statement t ≡ true → are_sides_allowed t ≡ true → is_allowed_statement t ≡ true
unfolding is_allowed_statement
statement_allowed t e f g = rw (e, f, g) refl

pub sides-asked : (t : Triple) → is_statement t ≡ true → are_sides_allowed t ≡ false → cond (is_statement t) (are_sides_allowed t) true ≡ false
sides-asked t f g = rw (f, g) refl
