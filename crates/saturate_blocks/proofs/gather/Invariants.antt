-- The blocks of the facts i .. y that lead to the column are among the streams, of which there is at most one for each statement.
use Prim.Native.Nat.{◌-◌}
use Rattle.saturate_blocks.specs.inside.Blocks.{Gathered}
use Rattle.saturate_blocks.proofs.gather.Given as goal

abbrev pub invariant-loop-y : goal.invariant-loop-y
invariant-loop-y l = Gathered l.statements l.sizes.statements l.domains l.c l.f l.initial.ends l.ends l.k0 l.k l.i l.y l.e

abbrev pub decreases-loop-y : goal.decreases-loop-y
decreases-loop-y l = l.e - l.y
