-- The result is the definition's, by what the calls ensure. Assumes nothing.
use Rattle.spec.specs.Terms.{is_allowed_fact}
use Rattle.terms.proofs.is_allowed_fact.Goals as goal

pub returns : goal.returns
unfolding is_allowed_fact
returns c = cc
