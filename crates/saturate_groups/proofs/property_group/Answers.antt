-- Those of a property have its term as their subject, and a property of 3 or more.
use native.Mathlib.Omega.{arith}
use Rattle.saturate_groups.proofs.Groups.{property_starts}
use Rattle.saturate_groups.proofs.property_group.Goals as goal

pub first_of_group-requires : goal.first_of_group-requires
first_of_group-requires c = record { statements = c.requires; group = rw c.wide-x.ensures.0 (property_starts c.args.statements.now _ c.requires _ (omega arith)) }

pub returns : goal.returns
returns c = rw c.wide-x.ensures.0 at c.first_of_group.ensures
