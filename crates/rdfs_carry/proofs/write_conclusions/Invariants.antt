-- The invariant: the first i conclusions are written.
use Rattle.rdfs_carry.proofs.WrittenLaws.{Written}
use Rattle.rdfs_carry.proofs.write_conclusions.Given as goal

abbrev pub invariant-loop-i : goal.invariant-loop-i
invariant-loop-i l = Written l.fact l.ends.properties l.ends.subject l.found l.out l.i
