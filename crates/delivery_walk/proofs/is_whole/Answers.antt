-- By the two tests of `is_whole`.
use mathlib.Core.Path.{sym}
use Rattle.delivery_walk.proofs.Ends.{too_long_lem, ends_there}
use Rattle.delivery_walk.proofs.is_whole.Goals as goal

pub returns-then-bytes-gt-MOST_BYTES : goal.returns-then-bytes-gt-MOST_BYTES
returns-then-bytes-gt-MOST_BYTES c = sym (too_long_lem c.args.bytes.now c.if-bytes-gt-MOST_BYTES.true)

pub returns : goal.returns
returns c = ends_there c.args.bytes.now _ _ c.if-bytes-gt-MOST_BYTES.false c.section_start.ensures.value c.walked_end.ensures
