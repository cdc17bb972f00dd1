-- The rows read are those that the fact carries. Assumes nothing.
use Rattle.spec.specs.Tables.{rows}
use Rattle.spec.specs.computed.Carried.{carried}
use Rattle.query_alternatives.proofs.GatherLaws.{carried_rows, carried_fits}
use Rattle.query_alternatives.proofs.sources.put_carried.Goals as goal

pub put_rows-requires : goal.put_rows-requires
put_rows-requires c = (carried_fits c.carry-n.result c.carry-n.new.out (carried (rows c.args.statements.now) c.args.fact) c.carry-n.ensures.value c.carry-n.ensures.out_after, c.requires.1)

pub returns : goal.returns
returns c = rw (carried_rows c.carry-n.result c.carry-n.new.out (carried (rows c.args.statements.now) c.args.fact) c.carry-n.ensures.value c.carry-n.ensures.out_after) at c.put_rows.ensures
