-- The result is the definition's, by what the calls ensure. Assumes nothing.
use Rattle.terms.proofs.Term.is_class.Goals as goal

pub returns : goal.returns
returns c = cc
