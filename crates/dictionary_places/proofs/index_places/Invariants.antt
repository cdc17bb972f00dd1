use Prim.Native.Nat.{◌-◌}
use Rattle.dictionary_places.proofs.Keeping.{Keeping}
use Rattle.dictionary_places.proofs.index_places.Given as goal

abbrev pub invariant-loop-at : goal.invariant-loop-at
invariant-loop-at l = Keeping l.dictionary l.f l.places l.at

abbrev pub decreases-loop-at : goal.decreases-loop-at
decreases-loop-at l = l.f.end - l.at
