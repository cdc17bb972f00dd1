-- `finish` refuses a known excess, and gives settled rows.
use mathlib.Core.Path.{◌∙◌}
use Rattle.rows_distinct.proofs.Gathering.{gathers_refused, gathers-rows}
use Rattle.rows_finish.proofs.finish.Goals as goal

pub returns-then-c : goal.returns-then-c
returns-then-c c = λ R C. gathers_refused _ R _ _ _ c.if-c.true c.clear.ensures C

pub returns : goal.returns
returns c = λ R C. gathers-rows _ R c.args.out.now _ _ c.requires.0 c.settle-s.ensures.settled.0 (c.settle-s.ensures.settled.1 ∙ c.if-c.false) c.settle-s.auto.out (c.settle-s.ensures.collects R C)
