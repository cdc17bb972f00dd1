-- The columns below c have what the row adds.
use Rattle.saturate_schema.specs.inside.Squares.{at}
use Rattle.saturate_counts.specs.inside.Counting.{Added}
use Rattle.saturate_counts.proofs.add_row.Given as goal

abbrev pub invariant-loop-c : goal.invariant-loop-c
invariant-loop-c l = Added l.initial.counts l.counts (λ k. at l.square l.g k) l.c
