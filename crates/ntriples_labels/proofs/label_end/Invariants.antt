use lib.ListN.{length}
use Prim.Native.Nat.{◌-◌}
use Rattle.ntriples_labels.proofs.Naming.{InLabel}
use Rattle.ntriples_labels.proofs.label_end.Given as goal

abbrev pub invariant-loop-at : goal.invariant-loop-at
invariant-loop-at l = InLabel l.line l.from l.end l.at

abbrev pub decreases-loop-at : goal.decreases-loop-at
decreases-loop-at l = length l.line - l.at
