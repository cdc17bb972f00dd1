use Prim.Native.Nat.{◌-◌}
use lib.ListN.{length}
use Rattle.dictionary_places.proofs.Walking.{Towards}
use Rattle.dictionary_places.proofs.place_of.Given as goal

abbrev pub invariant-loop-at : goal.invariant-loop-at
invariant-loop-at l = Towards l.dictionary l.term l.at

abbrev pub decreases-loop-at : goal.decreases-loop-at
decreases-loop-at l = length l.dictionary - l.at
