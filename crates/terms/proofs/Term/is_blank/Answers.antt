-- The result is the definition's, by what the calls ensure. Assumes nothing.
use Rattle.spec.specs.Terms.{is_blank}
use Rattle.terms.proofs.Term.is_blank.Goals as goal

pub returns : goal.returns
unfolding is_blank
returns c = cc
