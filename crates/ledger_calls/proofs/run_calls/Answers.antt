use Prim.Native.Nat.{◌-◌}
use mathlib.Core.Path.{refl}
use native.Mathlib.Nat.{sub-zero}
use native.Mathlib.Omega.{arith}
use Rattle.ledger_calls.proofs.Running.{going_start, call-next, going_end}
use borrow.Author.Rules.{rules}
use Rattle.ledger_calls.proofs.run_calls.Goals as goal

pub loop-i-init : goal.loop-i-init
loop-i-init c = (rw sub-zero (going_start _ _ _ _ c.requires), record { same_statements = refl; same_facts = refl; same_kept = refl; same_supports = refl }, refl)

pub loop-i-preserved : goal.loop-i-preserved
loop-i-preserved c = (call-next _ c.loop-i.i c.loop-i.invariant.0 c.loop-i-test.true c.run_call-reply.ensures c.write_reply.ensures, record { same_statements = search rules; same_facts = search rules; same_kept = search rules; same_supports = search rules }, search rules)

pub returns : goal.returns
returns c =
    let both = going_end _ c.loop-i.invariant.0 (omega arith) in
    record { supports_after = both.0; replies_after = both.1 }
