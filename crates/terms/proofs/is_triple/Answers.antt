-- The result is the definition's, by what the calls ensure. Assumes nothing.
use Rattle.spec.specs.Terms.{is_triple}
use Rattle.terms.proofs.is_triple.Goals as goal

pub returns : goal.returns
unfolding is_triple
returns c = cc
