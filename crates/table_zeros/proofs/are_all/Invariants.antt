-- The invariant: of all elements from `from` on the answer is the one so far and that of the elements from i on.
use mathlib.Core.Path.{◌≡◌}
use mathlib.Core.Bool.{◌&&◌}
use lib.ListN.{drop}
use Rattle.spec.specs.Lists.{all}
use Rattle.table_zeros.proofs.are_all.Given as goal

abbrev pub invariant-loop-i : goal.invariant-loop-i
invariant-loop-i g l = all (λ w. g.T.PartialEq.eq w l.x) (drop l.from l.t) ≡ (l.ok && all (λ w. g.T.PartialEq.eq w l.x) (drop l.i l.t))
