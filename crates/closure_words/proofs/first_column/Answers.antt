-- The classes come first.
use native.Mathlib.Omega.{arith}
use Rattle.closure_words.proofs.Columns.{first_class, first_other}
use Rattle.closure_words.proofs.first_column.Goals as goal

pub returns-then-property-eq-SUB_CLASS_OF : goal.returns-then-property-eq-SUB_CLASS_OF
returns-then-property-eq-SUB_CLASS_OF c = first_class _ _ (omega arith)

pub returns-else-property-eq-SUB_CLASS_OF : goal.returns-else-property-eq-SUB_CLASS_OF
returns-else-property-eq-SUB_CLASS_OF c = first_other _ _ (λ e. omega arith)
