-- The facts i .. e have the subject x.
use mathlib.Core.Path.{◌≡◌}
use Prim.Native.Nat.{ℕ, ◌≤◌, ◌<◌}
use Rattle.saturate_schema.specs.inside.Compiled.{subject_at}
use Rattle.saturate_next.proofs.subject_end.Given as goal

abbrev pub invariant-loop-e : goal.invariant-loop-e
invariant-loop-e l = (y : ℕ) → l.i ≤ y → y < l.e → subject_at l.f y ≡ l.x
