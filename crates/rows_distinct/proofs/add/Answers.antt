-- `add` writes the row behind the others and counts it.
use Rattle.rows_distinct.proofs.Collecting.{collects-added, added-within}
use Rattle.rows_distinct.proofs.add.Goals as goal

pub returns : goal.returns
returns c = record { within = added-within _ _ _ c.args.out.now c.write_row.new.out c.write_row.auto.out c.requires.2; collects = λ R C. collects-added _ _ _ R _ _ _ c.write_row.ensures c.write_row.auto.out _ c.requires.2 C }
