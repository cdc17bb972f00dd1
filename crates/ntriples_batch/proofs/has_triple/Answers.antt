use Rattle.ntriples_batch.proofs.Gathering.{none-full, full-some}
use Rattle.ntriples_batch.proofs.has_triple.Goals as goal

pub returns-in-Full : goal.returns-in-Full
returns-in-Full c = full-some _ c.in-Full.ensures.triple c.in-Full.ensures.same

pub returns-in_default : goal.returns-in_default
returns-in_default c = none-full c.args.bytes.now _ c.line_of.result c.line_of.ensures c.in_default.not-Full
