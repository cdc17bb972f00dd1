-- Those of a class have its term as their subject, and the property 2.
use native.Mathlib.Omega.{arith}
use Rattle.saturate_groups.proofs.Groups.{class_starts}
use Rattle.saturate_groups.proofs.class_group.Goals as goal

pub first_of_group-requires : goal.first_of_group-requires
first_of_group-requires c = record { statements = c.requires; group = rw c.wide-x.ensures.0 (class_starts c.args.statements.now _ c.requires _ (omega arith)) }

pub returns : goal.returns
returns c = rw c.wide-x.ensures.0 at c.first_of_group.ensures
