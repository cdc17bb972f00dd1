-- The words of each answer. Assumes nothing.
use Rattle.ledger_call.specs.inside.Calls.{given_words}
use mathlib.Core.Path.{refl}
use Rattle.ledger_call.proofs.update_words.Goals as goal

pub returns-in-Applied : goal.returns-in-Applied
unfolding given_words
returns-in-Applied c = rw c.in-Applied.is refl

pub returns-in-Idle : goal.returns-in-Idle
unfolding given_words
returns-in-Idle c = rw c.in-Idle.is refl

pub returns-in-Refused : goal.returns-in-Refused
unfolding given_words
returns-in-Refused c = rw c.in-Refused.is refl
