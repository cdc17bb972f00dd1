use Prim.Native.Nat.{◌-◌}
use lib.ListN.{length}
use Rattle.dictionary_step.specs.inside.Filling.{Filling}
use Rattle.dictionary_walk.proofs.walk.Given as goal

abbrev pub invariant-loop-f : goal.invariant-loop-f
invariant-loop-f l = Filling l.dictionary l.f

abbrev pub decreases-loop-f : goal.decreases-loop-f
decreases-loop-f l = length l.dictionary - l.f.end
