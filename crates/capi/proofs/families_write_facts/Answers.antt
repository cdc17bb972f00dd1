-- The number, the length and the bytes are those of the entry's writing. Assumes nothing.
use Rattle.capi.proofs.Numbers.{writing_numbered}
use Rattle.capi.proofs.families_write_facts.Goals as goal

pub returns : goal.returns
returns c = writing_numbered _ _ _ _ _ c.reply_number.ensures.0 c.reply_number.ensures.1 c.write_facts.ensures
