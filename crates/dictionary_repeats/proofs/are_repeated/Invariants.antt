use Prim.Native.Nat.{◌-◌}
use Rattle.dictionary_repeats.proofs.Repeating.{Passing}
use Rattle.dictionary_repeats.proofs.are_repeated.Given as goal

abbrev pub invariant-loop-at : goal.invariant-loop-at
invariant-loop-at l = Passing l.slots l.dictionary l.first l.from l.at

abbrev pub decreases-loop-at : goal.decreases-loop-at
decreases-loop-at l = l.last - l.at
