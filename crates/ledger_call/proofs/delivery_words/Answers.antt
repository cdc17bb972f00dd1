-- The words are the fields of the result. Assumes nothing.
use Rattle.ledger_call.specs.inside.Calls.{given_words}
use mathlib.Core.Path.{refl}
use Rattle.ledger_call.proofs.delivery_words.Goals as goal

pub returns : goal.returns
unfolding given_words
returns c = refl
