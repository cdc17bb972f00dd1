use Prim.Native.Nat.{◌-◌}
use Rattle.dictionary_index.proofs.Segments.{Segmented}
use Rattle.dictionary_index.proofs.index_segment.Given as goal

abbrev pub invariant-loop-at : goal.invariant-loop-at
invariant-loop-at l = Segmented l.initial.slots l.slots l.dictionary l.first l.last l.at l.count

abbrev pub decreases-loop-at : goal.decreases-loop-at
decreases-loop-at l = l.last - l.at
