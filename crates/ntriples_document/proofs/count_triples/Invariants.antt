use Rattle.ntriples_document.proofs.Counting.{Counts}
use lib.ListN.{length}
use Prim.Native.Nat.{◌-◌}
use Rattle.ntriples_document.proofs.count_triples.Given as goal

abbrev pub invariant-loop-from : goal.invariant-loop-from
invariant-loop-from l = Counts l.file l.from l.count

abbrev pub decreases-loop-from : goal.decreases-loop-from
decreases-loop-from l = length l.file - l.from
