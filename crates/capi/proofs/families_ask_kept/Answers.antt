-- The number, the count and the rows are those of the entry's reply. Assumes nothing.
use Rattle.capi.proofs.Numbers.{reply_numbered}
use Rattle.capi.proofs.families_ask_kept.Goals as goal

pub returns : goal.returns
returns c = reply_numbered _ _ _ _ _ c.reply_number.ensures.0 c.reply_number.ensures.1 c.ask_kept.ensures
