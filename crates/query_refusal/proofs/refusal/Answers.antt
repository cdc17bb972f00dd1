-- By cases. Assumes nothing.
use mathlib.Core.Path.{sym, ◌∙◌}
use Rattle.query_refusal.proofs.RefusalLaws.{by_6, by_7, by_none}
use Rattle.query_refusal.proofs.refusal.Goals as goal

pub returns-then-not-is_question : goal.returns-then-not-is_question
returns-then-not-is_question c = by_6 _ (sym c.is_question.ensures ∙ c.if-not-is_question.true)

pub is_head_bound-requires : goal.is_head_bound-requires
is_head_bound-requires c = sym c.is_question.ensures ∙ c.if-not-is_question.false

pub returns-then-not-is_head_bound : goal.returns-then-not-is_head_bound
returns-then-not-is_head_bound c = by_7 _ (sym c.is_question.ensures ∙ c.if-not-is_question.false) (sym c.is_head_bound.ensures ∙ c.if-not-is_head_bound.true)

pub returns : goal.returns
returns c = by_none _ (sym c.is_question.ensures ∙ c.if-not-is_question.false) (sym c.is_head_bound.ensures ∙ c.if-not-is_head_bound.false)
