use mathlib.Core.Path.{refl, ◌∙◌}
use native.Mathlib.Omega.{arith}
use lib.ListN.{length-set}
use Rattle.update_lower.proofs.LowerPass.{gap-count, gap_trans, gap_none, gap-closed}
use Rattle.update_lower.proofs.lower_all.Goals as goal

pub returns-then-read-write : goal.returns-then-read-write
returns-then-read-write c = gap_none (gap-count c.lower_rows-moved.ensures c.requires.tables.laid.counted) c.if-read-write.true refl

pub move_rest-k-requires : goal.move_rest-k-requires
move_rest-k-requires c = let G = gap-count c.lower_rows-moved.ensures c.requires.tables.laid.counted in
    record { room = G.room; to_le_from = (G.write_le, G.read_le) }

pub overflow_cast-kept : goal.overflow_cast-kept
overflow_cast-kept c = let G = gap-count c.lower_rows-moved.ensures c.requires.tables.laid.counted in omega (arith, c.move_rest-k.ensures.write_le)

pub shape_of-kept : goal.shape_of-kept
shape_of-kept c = length-set c.clear_rows.new.kept 0 c.move_rest-k.result ∙ c.clear_rows.ensures.same-words ∙ c.move_rest-k.ensures.same-words ∙ c.lower_rows-moved.ensures.same-words

pub returns : goal.returns
returns c = gap-closed (gap_trans (gap-count c.lower_rows-moved.ensures c.requires.tables.laid.counted) c.move_rest-k.ensures) c.clear_rows.ensures
