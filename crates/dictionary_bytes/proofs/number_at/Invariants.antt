use Prim.Native.Nat.{◌+◌, ◌-◌, ◌^◌, ◌≤◌, ◌<◌}
use mathlib.Core.Path.{◌≡◌}
use lib.ListN.{take, drop}
use Rattle.spec_ntriples.specs.Dictionary.{bytes_number}
use Rattle.dictionary_bytes.proofs.number_at.Given as goal

abbrev pub invariant-loop-i : goal.invariant-loop-i
invariant-loop-i l = (l.at ≤ l.i) × (l.number ≡ bytes_number (take (l.at + l.n - l.i) (drop l.i l.bytes))) × (l.number < 256 ^ (l.at + l.n - l.i))
