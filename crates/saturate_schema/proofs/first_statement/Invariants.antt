-- No statement before i starts at the node.
use mathlib.Core.Path.{◌≡◌}
use Prim.Native.Nat.{ℕ, ◌<◌}
use Rattle.saturate_schema.specs.inside.Nodes.{subject_node}
use Rattle.saturate_schema.proofs.first_statement.Given as goal

abbrev pub invariant-loop-i : goal.invariant-loop-i
invariant-loop-i l = (k : ℕ) → k < l.i → ¬ (subject_node l.statements k ≡ l.x)
