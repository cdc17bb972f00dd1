-- The result is the definition's, by what the calls ensure. Assumes nothing.
use Rattle.spec.specs.Terms.{is_allowed_statement}
use Rattle.terms.proofs.is_allowed_statement.Goals as goal

pub returns : goal.returns
unfolding is_allowed_statement
returns c = cc
