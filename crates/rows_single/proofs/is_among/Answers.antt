use mathlib.Core.Path.{sym, ◌∙◌}
use native.Mathlib.Omega.{arith}
use Rattle.rows_single.proofs.Search.{search_up, search_down, search_past, search_end}
use Rattle.rows_single.proofs.is_among.Goals as goal

pub loop-lo-preserved-then-less_words : goal.loop-lo-preserved-then-less_words
loop-lo-preserved-then-less_words c = search_up _ _ _ _ _ _ c.loop-lo.invariant (omega arith) (omega arith) (sym c.less_words.ensures ∙ c.if-less_words.true)

pub loop-lo-preserved : goal.loop-lo-preserved
loop-lo-preserved c = search_down _ _ _ _ _ _ c.loop-lo.invariant (omega arith) (omega arith) (sym c.less_words.ensures ∙ c.if-less_words.false)

pub returns-then-lo-n : goal.returns-then-lo-n
returns-then-lo-n c = search_past _ _ _ _ _ _ c.loop-lo.invariant c.if-lo-n.true

pub returns : goal.returns
returns c = search_end _ _ _ _ _ _ c.loop-lo.invariant (omega arith) c.if-lo-n.false _ c.less_words-2.ensures
