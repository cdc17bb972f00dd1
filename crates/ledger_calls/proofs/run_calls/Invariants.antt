-- The loop's invariant is `Going`: what is left to run gives what all gives. Assumes nothing.
use Prim.Native.Nat.{◌-◌, ◌*◌}
use mathlib.Core.Path.{◌≡◌}
use lib.ListN.{length}
use Rattle.spec.specs.Tables.{tables}
use Rattle.store.proofs.Fitting.{SameLengths}
use Rattle.ledger_calls.proofs.Running.{Going}
use Rattle.ledger_calls.proofs.run_calls.Given as goal

abbrev pub invariant-loop-i : goal.invariant-loop-i
invariant-loop-i l = Going l.words l.bytes l.initial.replies (tables l.initial.statements l.initial.facts l.initial.kept l.initial.supports) (l.i-end - l.i) (l.i * 4) (l.i * 5) l.replies (tables l.statements l.facts l.kept l.supports) × SameLengths (tables l.statements l.facts l.kept l.supports) (tables l.initial.statements l.initial.facts l.initial.kept l.initial.supports) × (length l.replies ≡ length l.initial.replies)
