-- Five stores, one after the other. Assumes nothing.
use native.Mathlib.Omega.{arith}
use lib.ListN.{length-set}
use Rattle.ledger_calls.proofs.Running.{five_stored}
use borrow.Author.Rules.{rules}
use Rattle.ledger_calls.proofs.write_reply.Goals as goal

pub bounds-replies-at-2 : goal.bounds-replies-at-2
bounds-replies-at-2 c = simp length-set (omega arith)

pub bounds-replies-at-3 : goal.bounds-replies-at-3
bounds-replies-at-3 c = simp length-set (omega arith)

pub bounds-replies-at-4 : goal.bounds-replies-at-4
bounds-replies-at-4 c = simp length-set (omega arith)

pub bounds-replies-at-5 : goal.bounds-replies-at-5
bounds-replies-at-5 c = simp length-set (omega arith)

pub returns : goal.returns
returns c = five_stored c.args.words c.args.replies.now c.args.at (search rules)
