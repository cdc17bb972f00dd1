-- The word of the property decides.
use mathlib.Core.Path.{sym, ap, ◌∙◌}
use Prim.Native.Nat.{ℕ, ◌^◌, ◌+◌}
use Rattle.saturate_schema.proofs.Closing.{subject_class_node, subject_property_node}
use Rattle.saturate_schema.proofs.subject_node.Goals as goal

pub returns-then-statements-i-eq-SUB_CLASS_OF : goal.returns-then-statements-i-eq-SUB_CLASS_OF
returns-then-statements-i-eq-SUB_CLASS_OF c = c.wide-a.ensures.0 ∙ sym (subject_class_node _ _ c.if-statements-i-eq-SUB_CLASS_OF.true)

pub returns-else-statements-i-eq-SUB_CLASS_OF : goal.returns-else-statements-i-eq-SUB_CLASS_OF
returns-else-statements-i-eq-SUB_CLASS_OF c = ap (λ (z : ℕ). z + 2 ^ 32) c.wide-a.ensures.0 ∙ sym (subject_property_node _ _ c.if-statements-i-eq-SUB_CLASS_OF.false)
