-- The result is the definition's, by what the calls ensure. Assumes nothing.
use Rattle.spec.specs.Terms.{is_vocabulary}
use Rattle.terms.proofs.Term.is_vocabulary.Goals as goal

pub returns : goal.returns
unfolding is_vocabulary
returns c = cc
