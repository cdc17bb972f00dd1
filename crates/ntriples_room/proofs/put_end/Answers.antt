use native.Mathlib.Omega.{arith}
use lib.ListN.{length-set}
use Rattle.ntriples_room.proofs.Putting.{end_none, end-put}
use Rattle.ntriples_room.proofs.put_end.Goals as goal

-- src/lib.rt:61:9
pub returns-then-out-at-lt-END_BYTES : goal.returns-then-out-at-lt-END_BYTES
returns-then-out-at-lt-END_BYTES c = end_none c.args.out.now _ c.args.at c.requires (omega arith)

-- src/lib.rt:64:5
pub bounds-out-at-2 : goal.bounds-out-at-2
bounds-out-at-2 c = simp length-set (omega arith)

-- src/lib.rt:56:1
pub returns : goal.returns
returns c = end-put c.args.out.now c.args.at c.requires (omega arith)
