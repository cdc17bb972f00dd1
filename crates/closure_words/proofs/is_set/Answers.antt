-- The test reads the bit.
use Rattle.table.proofs.SearchLaws.{tells_equal}
use Rattle.closure_words.proofs.is_set.Goals as goal

pub returns : goal.returns
returns c = tells_equal _ 1
