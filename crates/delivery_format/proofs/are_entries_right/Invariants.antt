-- The invariant: of all entries the answer is that of the entries from the i-th on.
use mathlib.Core.Path.{◌≡◌}
use Prim.Native.Nat.{◌+◌, ◌-◌, ◌*◌}
use Rattle.spec.specs.Lists.{all}
use Rattle.spec.specs.computed.Decoded.{entries_from}
use Rattle.delivery_format.specs.inside.Sections.{is_right_in}
use Rattle.delivery_format.proofs.are_entries_right.Given as goal

abbrev pub invariant-loop-i : goal.invariant-loop-i
invariant-loop-i l = all (is_right_in l.statements) (entries_from l.bytes l.at l.n) ≡ all (is_right_in l.statements) (entries_from l.bytes (l.at + l.i * 12) (l.n - l.i))
