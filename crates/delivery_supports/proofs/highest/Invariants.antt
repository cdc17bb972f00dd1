-- The invariant: the highest of what is passed with that of what is left is the highest of all. Assumes nothing.
use Prim.Native.Nat.{max}
use mathlib.Core.Path.{◌≡◌}
use lib.ListN.{take, drop}
use Rattle.delivery_supports.specs.inside.Highest.{highest}
use Rattle.delivery_supports.proofs.highest.Given as goal

abbrev pub invariant-loop-support : goal.invariant-loop-support
invariant-loop-support l = max l.most (highest (drop l.support-index (take l.n l.supports))) ≡ highest (take l.n l.supports)
