-- The invariant: at is where the section begins that is reached.
use mathlib.Core.Path.{◌≡◌}
use Prim.Native.Nat.{◌*◌, ◌≤◌}
use Rattle.spec.specs.computed.Decoded.{section_start}
use Rattle.delivery_format.proofs.section_start.Given as goal

abbrev pub invariant-loop : goal.invariant-loop
invariant-loop l = (l.at ≡ section_start l.bytes l.counter) × (l.at ≤ l.counter * 786422)
