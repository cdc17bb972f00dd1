-- The columns below c have what the two squares add.
use Rattle.saturate_counts.specs.inside.Counting.{Added, either_at}
use Rattle.saturate_counts.proofs.add_either.Given as goal

abbrev pub invariant-loop-c : goal.invariant-loop-c
invariant-loop-c l = Added l.initial.counts l.counts (either_at l.domains l.ranges l.nc l.g) l.c
