-- The invariant `Turn`, and each term is reached. What is left falls with each turn: a term more costs a mark.
use Prim.Native.Nat.{◌≤◌, ◌+◌, ◌-◌}
use Rattle.rdfs_reach.specs.inside.Marks.{unused}
use Rattle.rdfs_reach.proofs.WorkLaws.{Turn, Reached}
use Rattle.rdfs_reach.proofs.close.Given as goal

abbrev pub invariant-loop-i : goal.invariant-loop-i
invariant-loop-i l = (l.i ≤ l.e) × Turn l.st l.m l.k l.from l.initial.used l.initial.found l.n l.used l.found l.e l.i × Reached l.st l.m l.k l.from l.initial.found l.n l.found l.e

abbrev pub decreases-loop-i : goal.decreases-loop-i
decreases-loop-i l = l.e + unused l.m l.used - l.i
