use Prim.Native.Nat.{◌-◌}
use Rattle.dictionary_distinct.proofs.Apartness.{Compared}
use Rattle.dictionary_distinct.proofs.are_distinct.Given as goal

abbrev pub invariant-loop-first : goal.invariant-loop-first
invariant-loop-first l = Compared l.dictionary l.last l.first

abbrev pub decreases-loop-first : goal.decreases-loop-first
decreases-loop-first l = l.last - l.first
