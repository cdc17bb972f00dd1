-- The tables are cleared, and so demand 3 says what the calls leave and give. Assumes nothing.
use native.Mathlib.Omega.{arith}
use Rattle.spec.specs.Tables.{tables}
use Rattle.output.proofs.Filled.{all_zero}
use Rattle.ledger.proofs.Running.{ran}
use Rattle.ledger.proofs.run.Goals as goal

pub returns : goal.returns
returns c = ran (tables c.args.statements.now c.args.facts.now c.args.kept.now c.args.supports.now) c.args.words.now c.args.bytes.now c.args.replies.now _ _ _ _ _ _ c.requires c.clear.ensures c.clear-2.ensures c.clear-3.ensures (all_zero _ _ _ c.zero_supports.ensures c.zero_supports.auto.supports (omega (arith, c.zero_supports.auto.supports))) c.run_calls.ensures.supports_after c.run_calls.ensures.replies_after
