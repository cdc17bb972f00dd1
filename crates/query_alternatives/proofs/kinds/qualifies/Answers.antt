-- The result is the definition's, by what the call ensures. Assumes nothing.
use Rattle.query_alternatives.specs.inside.Putting.{are_ends, qualifies}
use Rattle.query_alternatives.proofs.kinds.qualifies.Goals as goal

pub returns : goal.returns
unfolding qualifies are_ends
returns c = cc
