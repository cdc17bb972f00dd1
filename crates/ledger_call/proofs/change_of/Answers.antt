-- By whether the kind is that of an addition. Assumes nothing.
use Rattle.ledger_call.proofs.Calling.{addition_of, withdrawal_of}
use Rattle.ledger_call.proofs.change_of.Goals as goal

pub returns-then-kind-eq-ADDITION : goal.returns-then-kind-eq-ADDITION
returns-then-kind-eq-ADDITION c = addition_of c.args.kind c.if-kind-eq-ADDITION.true

pub returns : goal.returns
returns c = withdrawal_of c.args.kind c.if-kind-eq-ADDITION.false
