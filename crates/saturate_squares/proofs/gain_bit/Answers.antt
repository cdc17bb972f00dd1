-- The column is the end, or row go has it, or neither.
use Rattle.saturate_schema.specs.inside.Squares.{at}
use Rattle.saturate_schema.proofs.Closing.{gain_so, gain_go, gain_none}
use Rattle.saturate_squares.proofs.gain_bit.Goals as goal

pub returns-then-c-so : goal.returns-then-c-so
returns-then-c-so c = gain_so (at c.args.square.now) _ _ _ _ c.if-c-so.true

pub returns-then-go-m : goal.returns-then-go-m
returns-then-go-m c = gain_go (at c.args.square.now) _ _ _ _ c.if-c-so.false c.if-go-m.true

pub returns : goal.returns
returns c = gain_none (at c.args.square.now) _ _ _ _ c.if-c-so.false c.if-go-m.false
