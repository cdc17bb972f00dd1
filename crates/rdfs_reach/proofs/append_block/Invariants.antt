-- The invariant `Block`: the rows passed are of the subject and the property, and each has its mark and its object in place.
use Rattle.rdfs_reach.proofs.MarkLaws.{Block}
use Rattle.rdfs_reach.proofs.append_block.Given as goal

abbrev pub invariant-loop-j : goal.invariant-loop-j
invariant-loop-j l = Block l.st l.m l.k l.x l.first l.initial.used l.initial.found l.n l.used l.found l.e l.j
