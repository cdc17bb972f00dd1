-- Without rows to lower nothing is passed; else the rows before the first that is not below the first of them.
use native.Mathlib.Omega.{arith}
use Rattle.table.proofs.SearchLaws.{between-all}
use Rattle.update_kept.proofs.Entries.{sought_ready}
use Rattle.update_lower.proofs.Passed.{first_passed, none_passed}
use Rattle.update_lower.proofs.start_place.Goals as goal

pub returns-then-c-eq0 : goal.returns-then-c-eq0
returns-then-c-eq0 c = none_passed _ _

pub lower_bound-requires : goal.lower_bound-requires
lower_bound-requires c = record { rising = record { fits = omega (arith, c.requires.laid.fits, c.requires.laid.counted); ascends = sought_ready c.requires }; between = between-all _ _ _ }

pub returns : goal.returns
returns c = first_passed _ _ _ _ c.row_from.ensures c.lower_bound.ensures
