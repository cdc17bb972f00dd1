-- The streams below y are stepped and counted, the others are as they were.
use Rattle.saturate_merge.proofs.Streams.{Stepping}
use Rattle.saturate_merge.proofs.step.Given as goal

abbrev pub invariant-loop-y : goal.invariant-loop-y
invariant-loop-y l = Stepping l.f l.initial.ends l.ends l.o l.k l.c l.y
