-- The invariant `Turn`: the subjects at the places passed are done.
use Rattle.rdfs_reach.proofs.WorkLaws.{Turn}
use Rattle.rdfs_reach.proofs.append_all.Given as goal

abbrev pub invariant-loop-i : goal.invariant-loop-i
invariant-loop-i l = Turn l.st l.m l.k l.from l.initial.used l.initial.found l.n l.used l.found l.e l.i
