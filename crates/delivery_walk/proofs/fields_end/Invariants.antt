-- The invariant: the fields that are left end where all end.
use mathlib.Core.Path.{◌≡◌}
use Prim.Native.Nat.{◌+◌, ◌-◌, ◌*◌, ◌≤◌}
use Rattle.spec.specs.computed.Decoded.{fields_end}
use Rattle.delivery_walk.proofs.fields_end.Given as goal

abbrev pub invariant-loop : goal.invariant-loop
invariant-loop l = (fields_end l.bytes l.end (l.n - l.counter) ≡ fields_end l.bytes l.at l.n) × (l.end + (l.n - l.counter) * 65539 ≤ l.at + l.n * 65539)
