-- The rows of all subjects below the next are put. One of the two places goes on with each turn.
use Prim.Native.Nat.{◌-◌, ◌+◌}
use Rattle.saturate_merge.specs.inside.Output.{output}
use Rattle.saturate_run.proofs.Running.{Running}
use Rattle.saturate_run.proofs.put_rows.Given as goal

abbrev pub invariant-loop-x : goal.invariant-loop-x
invariant-loop-x l = Running l.f l.ix l.n l.statements l.sizes.statements l.domains l.ranges l.keys l.sizes.classes l.sizes.columns l.room (output l.initial.kept l.initial.supports 0) (output l.kept l.supports l.out) l.i l.j

abbrev pub decreases-loop-x : goal.decreases-loop-x
decreases-loop-x l = (l.n - l.i) + (l.n - l.j)
