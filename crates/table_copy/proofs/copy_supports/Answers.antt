-- The supports of the rows are copied, and what is behind them is set to zero.
use Rattle.table_copy.proofs.Copied.{copied-padded}
use Rattle.table_copy.proofs.copy_supports.Goals as goal

pub returns : goal.returns
returns c = copied-padded c.args.old.now c.args.new.now c.copy_shorts.new.new c.zero_words.new.t c.args.n c.requires.n_in_bounds c.requires.n_in_bounds_2 c.copy_shorts.ensures c.zero_words.ensures c.zero_words.auto.t
