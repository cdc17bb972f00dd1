use Rattle.ntriples_read.proofs.Reading.{room_none, room-some}
use Rattle.ntriples_read.proofs.has_room.Goals as goal

-- src/lib.rt:42:9
pub returns-then-n-gt-MOST_LINES : goal.returns-then-n-gt-MOST_LINES
returns-then-n-gt-MOST_LINES c = room_none c.args.n c.args.len c.if-n-gt-MOST_LINES.true

-- src/lib.rt:38:1
pub returns : goal.returns
returns c = room-some c.args.n c.args.len c.if-n-gt-MOST_LINES.false
