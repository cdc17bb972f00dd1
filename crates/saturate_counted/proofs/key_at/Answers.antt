-- Past the end there is no key.
use mathlib.Core.Path.{sym, ◌∙◌}
use borrow.Author.Tests.{le-ltb}
use Rattle.saturate_counted.specs.inside.Counted.{key_at}
use Rattle.saturate_counted.proofs.Counting.{key_at-at}
use Rattle.saturate_counted.proofs.key_at.Goals as goal

pub returns-then-r-end : goal.returns-then-r-end
returns-then-r-end c = c.wide.ensures.0 ∙ sym (key_at-at _ _ _ c.if-r-end.true)

pub returns-else-r-end : goal.returns-else-r-end
unfolding key_at
returns-else-r-end c = simp (le-ltb _ _ c.if-r-end.false)
