-- The result is the definition's, by what the calls ensure. Assumes nothing.
use Rattle.spec.specs.Terms.{is_variable}
use Rattle.terms.proofs.Term.is_variable.Goals as goal

pub returns : goal.returns
unfolding is_variable
returns c = cc
