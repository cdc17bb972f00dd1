use Prim.Native.Nat.{◌-◌}
use native.Mathlib.Omega.{arith}
use mathlib.Core.Path.{◌∙◌}
use Rattle.spec.specs.Tables.{rows}
use Rattle.spec_ntriples.specs.Dictionary.{entries}
use Rattle.spec_writing.specs.Writing.{rows_bytes}
use Rattle.ntriples_rows.proofs.Lines.{left_first, left-next, left_has, left-full, left_more, left_done, left_end, rows_none, given_none, given-all}
use Rattle.ntriples_rows.proofs.write_rows.Goals as goal

-- src/lib.rt:96:5
pub loop-i-init : goal.loop-i-init
loop-i-init c = (left_first (entries c.args.dictionary.now) (rows c.args.table.now) c.args.out.now c.requires.table_value)

-- src/lib.rt:97:13
pub put_row-end-requires : goal.put_row-end-requires
put_row-end-requires c = record { are_places = c.requires.are_places; t_value = left_has c.row_at.result (left-next c.args.table.now c.loop-i.i c.row_at.result c.requires.laid c.loop-i-test.true c.row_at.ensures c.loop-i.invariant); at_in_bounds = c.loop-i.invariant.inside }

-- src/lib.rt:100:13
pub returns-then-end-eq0 : goal.returns-then-end-eq0
returns-then-end-eq0 c = given_none (rows_bytes (entries c.args.dictionary.now) (rows c.args.table.now)) c.args.out.now c.put_row-end.new.out _ (left-full c.row_at.result (left-next c.args.table.now c.loop-i.i c.row_at.result c.requires.laid c.loop-i-test.true c.row_at.ensures c.loop-i.invariant) c.put_row-end.ensures (omega (arith, c.if-end-eq0.true))) (c.put_row-end.auto.out ∙ c.loop-i.invariant.long) c.clear_from.ensures

-- src/lib.rt:96:5
pub loop-i-preserved : goal.loop-i-preserved
loop-i-preserved c = (left_more c.row_at.result (left-next c.args.table.now c.loop-i.i c.row_at.result c.requires.laid c.loop-i-test.true c.row_at.ensures c.loop-i.invariant) c.put_row-end.ensures (omega (arith, c.if-end-eq0.false)))

-- src/lib.rt:81:1
pub returns : goal.returns
returns c = given-all (rows_bytes (entries c.args.dictionary.now) (rows c.args.table.now)) c.args.out.now _ _ _ (left_done c.loop-i.invariant (rows_none c.args.table.now c.loop-i.i c.requires.laid (omega arith))) (left_end c.loop-i.invariant (rows_none c.args.table.now c.loop-i.i c.requires.laid (omega arith))) c.loop-i.invariant.inside c.clear_from-2.ensures
