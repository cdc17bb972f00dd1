-- A row is put where there is room, else only counted.
use native.Mathlib.Omega.{arith}
use Rattle.saturate_merge.proofs.Output.{put_here, put_past, put_full}
use Rattle.saturate_merge.proofs.put.Goals as goal

pub put_entry-requires : goal.put_entry-requires
put_entry-requires c = omega arith

pub returns-then-n-room : goal.returns-then-n-room
returns-then-n-room c = put_here c.if-n-room.true (omega arith) c.put_entry.ensures

pub returns-then-n-lt-MOST_COUNTED : goal.returns-then-n-lt-MOST_COUNTED
returns-then-n-lt-MOST_COUNTED c = put_past _ _ _ _ _ _ _ _ (omega arith) (omega arith)

pub returns : goal.returns
returns c = put_full _ _ _ _ _ _ _ _ (omega arith) (omega arith)
