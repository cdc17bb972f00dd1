-- By whether there is a row before the place.
use Rattle.update_raise.proofs.Raise.{last_none, last_some}
use borrow.Author.Rules.{rules}
use Rattle.update_raise.proofs.compare_last.Goals as goal

pub returns-then-i-eq0 : goal.returns-then-i-eq0
returns-then-i-eq0 c = last_none _ _ _ (search rules)

pub returns : goal.returns
returns c = last_some _ _ _ _ (search rules) c.compare_at.ensures
