-- `put_settled` keeps what is collected, one row more: by the law of each way through it.
use Prim.Native.Nat.{◌+◌}
use native.Mathlib.Omega.{arith}
use lib.ListN.{length}
use Rattle.rows_distinct.proofs.Collecting.{collects_found, collects_excess, room_for_one}
use Rattle.rows_put.proofs.put_settled.Goals as goal

pub returns-then-is_among : goal.returns-then-is_among
returns-then-is_among c = record { within = c.requires.m_nonzero.2; collects = λ R C. collects_found _ R _ _ _ _ c.is_among.ensures c.if-is_among.true c.requires.added_value.1 C }

pub returns-then-room-s-eq0 : goal.returns-then-room-s-eq0
returns-then-room-s-eq0 c = record { within = c.requires.m_nonzero.2; collects = λ R C. collects_excess _ R _ _ _ _ c.is_among.ensures c.if-is_among.false c.requires.added_value.0 c.requires.added_value.1 (omega arith) C }

pub add-requires : goal.add-requires
add-requires c = (c.requires.m_nonzero.0, c.requires.m_nonzero.1, room_for_one c.args.m (c.args.s.sorted + c.args.s.added) (length c.args.out.now) c.requires.m_nonzero.0 (omega (arith, c.if-room-s-eq0.false)))
