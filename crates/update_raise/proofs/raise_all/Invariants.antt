-- The invariant is `Pass`: what is left and what is done make the kept facts raised. A turn takes the last kept fact, the last row, or both.
use Prim.Native.Nat.{◌+◌}
use Rattle.update_raise.proofs.RaisePass.{Pass}
use Rattle.update_raise.proofs.raise_all.Given as goal

abbrev pub invariant-loop-j : goal.invariant-loop-j
invariant-loop-j l = Pass l.initial.kept l.initial.supports l.list l.c l.missing l.kept l.supports l.i l.j l.k

abbrev pub decreases-loop-j : goal.decreases-loop-j
decreases-loop-j l = l.i + l.j
