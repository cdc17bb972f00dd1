-- Rows a .. b with nothing in them have no front.
use mathlib.Core.Path.{sym, ◌∙◌}
use Rattle.saturate_merge.proofs.Streams.{front_none, front-some}
use Rattle.saturate_merge.proofs.front.Goals as goal

pub returns-then-a-b : goal.returns-then-a-b
returns-then-a-b c = c.wide.ensures.0 ∙ (c.object_at.ensures ∙ sym (front-some _ _ _ c.if-a-b.true))

pub returns-else-a-b : goal.returns-else-a-b
returns-else-a-b c = sym (front_none _ _ _ c.if-a-b.false)
