-- The part that is lent is the part that is meant. Assumes nothing.
use Rattle.ledger_call.proofs.Calling.{part-delivered}
use Rattle.ledger_call.proofs.deliver_part.Goals as goal

pub returns : goal.returns
returns c = part-delivered _ _ _ c.args.bytes.now c.args.from c.args.size c.min-start.result c.min-len.result c.min-start.ensures c.min-len.ensures c.deliver.ensures
