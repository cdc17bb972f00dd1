-- The word of the property decides.
use native.Mathlib.Omega.{arith}
use mathlib.Core.Path.{sym, ap, ◌∙◌}
use Prim.Native.Nat.{ℕ, ◌^◌, ◌+◌}
use Rattle.saturate_schema.proofs.Closing.{object_class_node, object_property_node}
use Rattle.saturate_schema.proofs.object_node.Goals as goal

pub returns-then-statements-i-eq-SUB_PROPERTY_OF : goal.returns-then-statements-i-eq-SUB_PROPERTY_OF
returns-then-statements-i-eq-SUB_PROPERTY_OF c = (ap (λ (z : ℕ). z + 2 ^ 32) c.wide-b.ensures.0 ∙ sym (object_property_node _ _ c.if-statements-i-eq-SUB_PROPERTY_OF.true), omega (arith, c.wide-b.ensures.1))

pub returns-else-statements-i-eq-SUB_PROPERTY_OF : goal.returns-else-statements-i-eq-SUB_PROPERTY_OF
returns-else-statements-i-eq-SUB_PROPERTY_OF c = (c.wide-b.ensures.0 ∙ sym (object_class_node _ _ c.if-statements-i-eq-SUB_PROPERTY_OF.false), omega (arith, c.wide-b.ensures.1))
