-- The invariant: the fields that are left have all that have tag 1, and end where all end.
use Prim.Native.Nat.{◌-◌}
use mathlib.Core.Path.{◌≡◌}
use Rattle.spec.specs.Deliveries.{number_fields}
use Rattle.spec.specs.computed.Decoded.{fields_from, fields_end}
use Rattle.delivery_number.proofs.from_number.Given as goal

abbrev pub invariant-loop-i : goal.invariant-loop-i
invariant-loop-i l = (fields_end l.bytes l.place (l.n - l.i) ≡ fields_end l.bytes l.at l.n) × (number_fields (fields_from l.bytes l.at l.n) ≡ number_fields (fields_from l.bytes l.place (l.n - l.i)))
