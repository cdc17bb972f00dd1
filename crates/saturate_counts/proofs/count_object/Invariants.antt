-- The counts have what the places before y-index add, at most 1 for each.
use Prim.Native.Nat.{◌+◌}
use lib.ListN.{get_or}
use Rattle.saturate_counts.specs.inside.Counting.{other_bit, Summed}
use Rattle.saturate_counts.proofs.count_object.Given as goal

abbrev pub invariant-loop-y : goal.invariant-loop-y
invariant-loop-y l = Summed l.initial.counts l.counts (λ k z. other_bit l.statements l.sizes.statements l.ranges l.f l.own.term k (get_or l.ix z 0)) l.sizes.classes l.own.from (l.own.from + l.y-index)
