use Prim.Native.Nat.{◌-◌}
use Rattle.dictionary_names.proofs.Room.{room_none, room_is}
use Rattle.dictionary_names.proofs.has_room.Goals as goal

-- src/lib.rt:103:9
pub returns-then-len-end-lt-HEADER : goal.returns-then-len-end-lt-HEADER
returns-then-len-end-lt-HEADER c = room_none c.args.len c.args.end c.args.n c.if-len-end-lt-HEADER.true c.requires

-- src/lib.rt:98:1
pub returns : goal.returns
returns c = room_is c.args.len c.args.end c.args.n c.if-len-end-lt-HEADER.false c.requires
