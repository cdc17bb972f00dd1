-- `clear_rows` sets the words and the supports of the places to zero. Assumes nothing.
use Rattle.update_lower.proofs.Clearing.{places_cleared}
use Rattle.update_lower.proofs.clear_rows.Goals as goal

pub returns : goal.returns
returns c = places_cleared c.requires.k_le_n c.requires.room c.zero_words.auto.t c.zero_words.ensures c.zero_supports.auto.supports c.zero_supports.ensures
