-- Without room nothing changes and the count says whether all rows fit; then they are written whole.
use native.Mathlib.Omega.{arith}
use lib.ListN.{length-set}
use Rattle.saturate_write.proofs.Passes.{first_pass, written-not, written_all, both_passes, rows_fit, zeroed_from}
use Rattle.saturate_write.proofs.put_all.Goals as goal

pub returns-then-room-k : goal.returns-then-room-k
returns-then-room-k c = λ K a s. written-not K c.args.room _ _ _ _ _ (first_pass K c.args.room _ _ _ _ _ (omega (arith, c.requires.room_in_bounds)) (c.put_rows-k.ensures K a s)) c.if-room-k.true

pub overflow_cast-kept : goal.overflow_cast-kept
overflow_cast-kept c = let nb = rows_fit c.requires.exists.list c.args.room c.args.kept.now c.args.supports.now _ _ _ _ _ _ (omega (arith, c.requires.room_in_bounds)) c.requires.room_in_bounds.0 c.requires.room_in_bounds.1 (c.put_rows-k.ensures c.requires.exists.list c.requires.exists.counts c.requires.exists.supported) c.if-room-k.false (c.put_rows-n.ensures c.requires.exists.list c.requires.exists.counts c.requires.exists.supported) in omega (arith, c.requires.room_in_bounds)

pub overflow_mul-n : goal.overflow_mul-n
overflow_mul-n c = let nb = rows_fit c.requires.exists.list c.args.room c.args.kept.now c.args.supports.now _ _ _ _ _ _ (omega (arith, c.requires.room_in_bounds)) c.requires.room_in_bounds.0 c.requires.room_in_bounds.1 (c.put_rows-k.ensures c.requires.exists.list c.requires.exists.counts c.requires.exists.supported) c.if-room-k.false (c.put_rows-n.ensures c.requires.exists.list c.requires.exists.counts c.requires.exists.supported) in omega (arith, c.requires.room_in_bounds)

pub overflow_add-n : goal.overflow_add-n
overflow_add-n c = let nb = rows_fit c.requires.exists.list c.args.room c.args.kept.now c.args.supports.now _ _ _ _ _ _ (omega (arith, c.requires.room_in_bounds)) c.requires.room_in_bounds.0 c.requires.room_in_bounds.1 (c.put_rows-k.ensures c.requires.exists.list c.requires.exists.counts c.requires.exists.supported) c.if-room-k.false (c.put_rows-n.ensures c.requires.exists.list c.requires.exists.counts c.requires.exists.supported) in omega (arith, c.requires.room_in_bounds)

pub zero_words-requires : goal.zero_words-requires
zero_words-requires c = let nb = rows_fit c.requires.exists.list c.args.room c.args.kept.now c.args.supports.now _ _ _ _ _ _ (omega (arith, c.requires.room_in_bounds)) c.requires.room_in_bounds.0 c.requires.room_in_bounds.1 (c.put_rows-k.ensures c.requires.exists.list c.requires.exists.counts c.requires.exists.supported) c.if-room-k.false (c.put_rows-n.ensures c.requires.exists.list c.requires.exists.counts c.requires.exists.supported) in simp length-set (omega (arith, c.requires.room_in_bounds, c.put_rows-k.auto.kept, c.put_rows-n.auto.kept, c.put_rows-k.auto.supports, c.put_rows-n.auto.supports))

pub zero_supports-requires : goal.zero_supports-requires
zero_supports-requires c = let nb = rows_fit c.requires.exists.list c.args.room c.args.kept.now c.args.supports.now _ _ _ _ _ _ (omega (arith, c.requires.room_in_bounds)) c.requires.room_in_bounds.0 c.requires.room_in_bounds.1 (c.put_rows-k.ensures c.requires.exists.list c.requires.exists.counts c.requires.exists.supported) c.if-room-k.false (c.put_rows-n.ensures c.requires.exists.list c.requires.exists.counts c.requires.exists.supported) in omega (arith, c.requires.room_in_bounds, c.put_rows-k.auto.kept, c.put_rows-n.auto.kept, c.put_rows-k.auto.supports, c.put_rows-n.auto.supports)

pub returns : goal.returns
returns c = λ K a s. let z = both_passes K c.args.room c.args.kept.now c.args.supports.now _ _ _ _ _ _ (omega (arith, c.requires.room_in_bounds)) c.requires.room_in_bounds.0 c.requires.room_in_bounds.1 (c.put_rows-k.ensures K a s) c.if-room-k.false (c.put_rows-n.ensures K a s) in written_all K c.args.room _ _ _ _ _ _ _ z.0 z.1 (zeroed_from _ _ _ (rw length-set (omega (arith, z.0, z.1.count, c.requires.room_in_bounds, c.put_rows-k.auto.kept, c.put_rows-n.auto.kept, c.put_rows-k.auto.supports, c.put_rows-n.auto.supports))) c.zero_words.auto.t c.zero_words.ensures) (zeroed_from _ _ _ (omega (arith, z.0, z.1.count, c.requires.room_in_bounds, c.put_rows-k.auto.kept, c.put_rows-n.auto.kept, c.put_rows-k.auto.supports, c.put_rows-n.auto.supports)) c.zero_supports.auto.supports c.zero_supports.ensures)
