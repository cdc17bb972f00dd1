-- The places j .. h have the object x.
use mathlib.Core.Path.{◌≡◌}
use Prim.Native.Nat.{ℕ, ◌≤◌, ◌<◌}
use Rattle.saturate_index.specs.inside.Index.{object_of}
use Rattle.saturate_next.proofs.object_end.Given as goal

abbrev pub invariant-loop-h : goal.invariant-loop-h
invariant-loop-h l = (y : ℕ) → l.j ≤ y → y < l.h → object_of l.f l.ix y ≡ l.x
