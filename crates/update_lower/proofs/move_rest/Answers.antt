use native.Mathlib.Omega.{arith}
use Rattle.update_lower.proofs.LowerPass.{gap_start, gap_move, gap_end}
use Rattle.update_lower.proofs.move_rest.Goals as goal

pub loop-i-init : goal.loop-i-init
loop-i-init c = gap_start _ _ _ _ _ c.requires.room c.requires.to_le_from.0 c.requires.to_le_from.1

pub row_at-row-requires : goal.row_at-row-requires
row_at-row-requires c = omega (arith, c.loop-i.invariant.room.words, c.loop-i.invariant.room.places)

pub bounds-supports-i : goal.bounds-supports-i
bounds-supports-i c = omega (arith, c.loop-i.invariant.room.words, c.loop-i.invariant.room.places)

pub put_entry-requires : goal.put_entry-requires
put_entry-requires c = omega (arith, c.loop-i.invariant.room.words, c.loop-i.invariant.room.places, c.loop-i.invariant.write_le)

pub loop-i-preserved : goal.loop-i-preserved
loop-i-preserved c = gap_move c.loop-i.invariant c.loop-i-test.true c.row_at-row.ensures c.put_entry.ensures

pub returns : goal.returns
returns c = gap_end c.loop-i.invariant c.loop-i-test.false
