-- The lesser of the rows that fit the words and the most, whatever the order.
use native.Mathlib.Omega.{arith}
use Rattle.spec.specs.Tables.{capacity}
use Rattle.table.proofs.capacity.Goals as goal

pub returns : goal.returns
unfolding capacity
returns c = λ ws e. omega arith
