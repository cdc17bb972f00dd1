-- The number, the length and the bytes are those of the entry's reading. Assumes nothing.
use Rattle.capi.proofs.Numbers.{reading_numbered}
use Rattle.capi.proofs.families_read_ntriples.Goals as goal

pub returns : goal.returns
returns c = reading_numbered _ _ _ _ _ _ c.reply_number.ensures.0 c.reply_number.ensures.1 c.read_ntriples.ensures
