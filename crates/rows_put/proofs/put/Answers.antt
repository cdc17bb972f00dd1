-- `put` keeps what is collected, one row more: by the law of each way through it.
use Rattle.rows_distinct.proofs.Collecting.{collects_exceeded, collects_there, collects_found}
use Rattle.rows_put.proofs.put.Goals as goal

pub returns-then-c : goal.returns-then-c
returns-then-c c = record { within = c.requires.2; collects = λ R C. collects_exceeded _ R _ _ _ c.if-c.true C }

pub returns-then-is_last : goal.returns-then-is_last
returns-then-is_last c = record { within = c.requires.2; collects = λ R C. collects_there _ R _ _ _ (c.is_last.ensures c.if-is_last.true) c.if-c.false C }

pub returns-then-is_among : goal.returns-then-is_among
returns-then-is_among c = record { within = c.requires.2; collects = λ R C. collects_found _ R _ _ _ _ c.is_among.ensures c.if-is_among.true c.if-c.false C }
