-- An update or a delivery, by the kind of call. Assumes nothing.
use Rattle.ledger_call.proofs.Calling.{call-updated, call-delivered}
use Rattle.ledger_call.proofs.run_call.Goals as goal

pub returns-then-kind-le-WITHDRAWAL : goal.returns-then-kind-le-WITHDRAWAL
returns-then-kind-le-WITHDRAWAL c = call-updated c.args.bytes.now c.args.kind c.args.a c.args.b c.args.c _ _ c.change_of-change.result c.update.result _ c.if-kind-le-WITHDRAWAL.true c.change_of-change.ensures c.update_words.ensures c.update.ensures

pub returns : goal.returns
returns c = call-delivered c.args.bytes.now c.args.kind c.args.a c.args.b c.args.c _ _ c.deliver_part.result _ c.if-kind-le-WITHDRAWAL.false c.delivery_words.ensures c.deliver_part.ensures
