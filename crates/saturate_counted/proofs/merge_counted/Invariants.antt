-- Rows below the lesser of the next object and the next key are put; in the second loop no object is left.
use Prim.Native.Nat.{◌≤◌, ◌-◌, ◌+◌}
use Rattle.saturate_merge.specs.inside.Output.{output}
use Rattle.saturate_merge.specs.inside.Streams.{objects}
use Rattle.saturate_counted.specs.inside.Counted.{counted}
use Rattle.saturate_counted.proofs.Counting.{At}
use Rattle.saturate_counted.proofs.merge_counted.Given as goal

abbrev pub invariant-loop-q : goal.invariant-loop-q
invariant-loop-q l = (l.r ≤ l.end) × At l.x 1 l.room l.f l.keys l.counts l.e l.end (objects l.f l.initial.q (l.e - l.initial.q)) (counted l.keys l.counts 0 l.end) (output l.initial.kept l.initial.supports l.n0) (output l.kept l.supports l.n) l.q l.r

abbrev pub decreases-loop-q : goal.decreases-loop-q
decreases-loop-q l = (l.e - l.q) + (l.end - l.r)

abbrev pub invariant-loop-i : goal.invariant-loop-i
invariant-loop-i l = At l.x 1 l.room l.f l.keys l.counts l.e l.end (objects l.f l.fn.own.from (l.e - l.fn.own.from)) (counted l.keys l.counts 0 l.end) (output l.fn.kept l.fn.supports l.n0) (output l.kept l.supports l.n) l.q l.i
