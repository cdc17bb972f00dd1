-- The invariant is `Lowering`: what is done, and what is left with the rows left lowered in it, make the kept facts lowered.
use Prim.Native.Nat.{◌+◌, ◌-◌}
use lib.ListN.{length}
use Rattle.spec.specs.Tables.{rows}
use Rattle.update_lower.proofs.LowerPass.{Lowering}
use Rattle.update_lower.proofs.lower_rows.Given as goal

abbrev pub invariant-loop-j : goal.invariant-loop-j
invariant-loop-j l = Lowering l.initial.kept l.initial.supports l.list l.c l.kept l.supports l.i l.j l.k

abbrev pub decreases-loop-j : goal.decreases-loop-j
decreases-loop-j l = length (rows l.initial.kept) - l.i + (l.c - l.j)
