-- The result is the definition's, by what the calls ensure. Assumes nothing.
use Rattle.spec.specs.Terms.{is_literal}
use Rattle.terms.proofs.Term.is_literal.Goals as goal

pub returns : goal.returns
unfolding is_literal
returns c = cc
