-- The classes end where the properties begin.
use native.Mathlib.Omega.{arith}
use Rattle.closure_words.proofs.Columns.{end_class, end_other}
use Rattle.closure_words.proofs.end_column.Goals as goal

pub returns-then-property-eq-SUB_CLASS_OF : goal.returns-then-property-eq-SUB_CLASS_OF
returns-then-property-eq-SUB_CLASS_OF c = end_class _ _ (omega arith)

pub returns-else-property-eq-SUB_CLASS_OF : goal.returns-else-property-eq-SUB_CLASS_OF
returns-else-property-eq-SUB_CLASS_OF c = end_other _ _ (λ e. omega arith)
