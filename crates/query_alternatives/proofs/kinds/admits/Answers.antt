-- The result is the definition's, by what the call ensures. Assumes nothing.
use Rattle.query_alternatives.proofs.kinds.admits.Goals as goal

pub returns : goal.returns
returns c = cc
