-- By whether there is a fact i.
use mathlib.Core.Path.{sym, ◌∙◌}
use Rattle.saturate_next.proofs.NextLaws.{subject-some, subject_none}
use Rattle.saturate_next.proofs.subject_from.Goals as goal

pub returns-then-i-n : goal.returns-then-i-n
returns-then-i-n c = c.wide.ensures.0 ∙ c.subject_at.ensures ∙ sym (subject-some c.args.f.now _ _ c.if-i-n.true)

pub returns-else-i-n : goal.returns-else-i-n
returns-else-i-n c = sym (subject_none c.args.f.now _ _ c.if-i-n.false)
