-- The facts q .. z have properties below w.
use Prim.Native.Nat.{ℕ, ◌≤◌, ◌<◌}
use Rattle.saturate_schema.specs.inside.Compiled.{property_at}
use Rattle.saturate_blocks.proofs.first_from.Given as goal

abbrev pub invariant-loop-z : goal.invariant-loop-z
invariant-loop-z l = (y : ℕ) → l.q ≤ y → y < l.z → property_at l.f y < l.w
