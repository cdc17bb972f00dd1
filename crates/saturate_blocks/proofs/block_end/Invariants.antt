-- The facts a .. z have one property.
use Rattle.saturate_blocks.proofs.Gathering.{SameProperty}
use Rattle.saturate_blocks.proofs.block_end.Given as goal

abbrev pub invariant-loop-z : goal.invariant-loop-z
invariant-loop-z l = SameProperty l.f l.a l.z
