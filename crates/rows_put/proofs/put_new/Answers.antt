-- `put_new` keeps what is collected, one row more: it is added, or put once the rows are settled.
use Prim.Native.Nat.{◌+◌}
use native.Mathlib.Omega.{arith}
use lib.ListN.{length}
use Rattle.rows_distinct.proofs.Collecting.{room_for_one}
use Rattle.rows_put.proofs.put_new.Goals as goal

pub add-requires : goal.add-requires
add-requires c = let spare = c.is_spare.ensures c.if-is_spare.true in
    (c.requires.m_nonzero.0, c.requires.m_nonzero.1, room_for_one c.args.m (c.args.c.sorted + c.args.c.added) (length c.args.out.now) c.requires.m_nonzero.0 (omega (arith, spare)))

pub returns : goal.returns
returns c = record { within = c.put_settled.ensures.within; collects = λ R C. c.put_settled.ensures.collects R (c.settle-s.ensures.collects R C) }
