-- The word of the property decides.
use native.Mathlib.Omega.{arith}
use Rattle.saturate_schema.proofs.Closing.{applies_two, applies_three, applies_via}
use Rattle.saturate_schema.proofs.applies.Goals as goal

pub returns-then-k-eq-SUB_CLASS_OF : goal.returns-then-k-eq-SUB_CLASS_OF
returns-then-k-eq-SUB_CLASS_OF c = applies_two c.args.statements.now _ _ c.if-k-eq-SUB_CLASS_OF.true

pub returns-then-k-eq-SUB_PROPERTY_OF : goal.returns-then-k-eq-SUB_PROPERTY_OF
returns-then-k-eq-SUB_PROPERTY_OF c = applies_three c.args.statements.now _ _ c.if-k-eq-SUB_CLASS_OF.false c.if-k-eq-SUB_PROPERTY_OF.true

pub returns : goal.returns
returns c = applies_via c.args.statements.now _ _ c.if-k-eq-SUB_CLASS_OF.false (omega arith)
