use lib.ListN.{length}
use Prim.Native.Nat.{◌-◌}
use Rattle.ntriples_labels.proofs.Naming.{InTag}
use Rattle.ntriples_labels.proofs.tag_end.Given as goal

abbrev pub invariant-loop-at : goal.invariant-loop-at
invariant-loop-at l = InTag l.line l.from l.part l.at

abbrev pub decreases-loop-at : goal.decreases-loop-at
decreases-loop-at l = length l.line - l.at
