-- The counts have what the facts i .. y add, at most 1 for each.
use Rattle.saturate_schema.specs.inside.Compiled.{own_bit}
use Rattle.saturate_counts.specs.inside.Counting.{Summed}
use Rattle.saturate_counts.proofs.count_subject.Given as goal

abbrev pub invariant-loop-y : goal.invariant-loop-y
invariant-loop-y l = Summed l.initial.counts l.counts (λ k z. own_bit l.statements l.sizes.statements l.sizes.classes l.domains l.ranges l.f l.own.term k z) l.sizes.columns l.own.first l.y
