-- The column of the end, and the word of its row if it has one.
use Rattle.closure_rows.proofs.RowLaws.{gained-row}
use Rattle.closure_rows.proofs.gain_word.Goals as goal

pub returns-then-go-m : goal.returns-then-go-m
returns-then-go-m c = gained-row c.args.closure.now _ _ _ _ _ c.if-go-m.true c.column_word-end.ensures
