-- By the comparison of two triples, case by case.
use Rattle.table_rows.proofs.Scan.{tested-is_less}
use Rattle.table_rows.proofs.is_less.Goals as goal

pub returns : goal.returns
returns c = tested-is_less c.args.x c.args.y
