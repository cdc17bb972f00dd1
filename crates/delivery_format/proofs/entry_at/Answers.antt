-- By the three words.
use Rattle.delivery_format.proofs.entry_at.Goals as goal

pub returns : goal.returns
returns c = cc
