use Prim.Native.Nat.{ℕ, ◌-◌, ◌≤◌}
use mathlib.Core.Path.{◌≡◌}
use mathlib.Core.List.{List}
use Rattle.ntriples_cursor.specs.inside.Coming.{IriComing, type_tail}
use Rattle.ntriples_cursor.proofs.Comparing.{IriLeft}
use Rattle.ntriples_cursor.proofs.steps.is_string_type.Given as goal

abbrev pub invariant-loop-place : goal.invariant-loop-place
invariant-loop-place l = (l.i ≤ 40) × (l.text ≡ type_tail) × ((bytes : List ℕ) → IriComing l.line l.end l.from bytes → IriLeft l.line l.end l.place bytes type_tail 40 l.i)

abbrev pub decreases-loop-place : goal.decreases-loop-place
decreases-loop-place l = l.end - l.place
