-- The result is the definition's, by what the calls ensure. Assumes nothing.
use Rattle.spec.specs.Terms.{is_uri}
use Rattle.terms.proofs.Term.is_uri.Goals as goal

pub returns : goal.returns
unfolding is_uri
returns c = cc
