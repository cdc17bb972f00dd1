use mathlib.Core.Path.{sym, ◌∙◌}
use native.Mathlib.Nat.{add-zero, sub-zero}
use native.Mathlib.Omega.{arith}
use Rattle.rows.proofs.RowWords.{less-between_more, less-between_stop, less-between_none}
use Rattle.rows_single.proofs.less_words.Goals as goal

pub loop-k-init : goal.loop-k-init
loop-k-init c = simp (add-zero, sub-zero)

pub returns-then-x-y : goal.returns-then-x-y
returns-then-x-y c = sym (less-between_stop _ _ _ _ _ _ (omega arith) c.if-x-y.true) ∙ c.loop-k.invariant

pub loop-k-preserved : goal.loop-k-preserved
loop-k-preserved c = less-between_more _ _ _ _ _ _ (omega arith) c.if-x-y.false ∙ c.loop-k.invariant

pub returns : goal.returns
returns c = sym (less-between_none _ _ _ _ _ (omega arith)) ∙ c.loop-k.invariant
