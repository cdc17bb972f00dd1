-- The first words that differ decide.
use Rattle.table_rows.proofs.Scan.{before_subject, before_property, before_object}
use Rattle.table_rows.proofs.is_before.Goals as goal

pub returns-then-x-y : goal.returns-then-x-y
returns-then-x-y c = before_subject c.args.x c.args.y c.if-x-y.true

pub returns-then-x-y-2 : goal.returns-then-x-y-2
returns-then-x-y-2 c = before_property c.args.x c.args.y c.if-x-y.false c.if-x-y-2.true

pub returns : goal.returns
returns c = before_object c.args.x c.args.y c.if-x-y.false c.if-x-y-2.false
