-- The invariant: of the n supports the answer is the one so far and that of those not yet seen.
use mathlib.Core.Path.{◌≡◌}
use mathlib.Core.Bool.{◌&&◌}
use lib.ListN.{take, drop}
use Rattle.spec.specs.Tables.{is_support}
use Rattle.spec.specs.Lists.{all}
use Rattle.table_supports.proofs.are_supports.Given as goal

abbrev pub invariant-loop-support : goal.invariant-loop-support
invariant-loop-support l = all (is_support l.facts) (take l.n l.u) ≡ (l.ok && all (is_support l.facts) (drop l.support-index (take l.n l.u)))
