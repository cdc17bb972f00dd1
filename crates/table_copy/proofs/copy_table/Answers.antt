-- The words of the rows are copied, and what is behind them is set to zero.
use Rattle.spec.specs.Tables.{count}
use Prim.Native.Nat.{◌+◌, ◌*◌}
use Rattle.table_copy.proofs.Copied.{copied-padded, copied-layout, laid_room}
use Rattle.table_copy.proofs.copy_table.Goals as goal

pub returns : goal.returns
returns c = copied-layout c.args.old.now c.args.new.now _ c.requires.laid
    (copied-padded c.args.old.now c.args.new.now c.copy_words.new.new c.zero_words.new.t (count c.args.old.now * 3 + 1) (laid_room c.args.old.now c.requires.laid) c.requires.in_bounds c.copy_words.ensures c.zero_words.ensures c.zero_words.auto.t)
