use Prim.Native.Nat.{◌-◌}
use mathlib.Core.Path.{◌≡◌}
use lib.Seq.{sets}
use Rattle.spec_ntriples.specs.Dictionary.{number_bytes}
use Rattle.dictionary_entries.proofs.write_number.Given as goal

abbrev pub invariant-loop-b : goal.invariant-loop-b
invariant-loop-b l = sets l.b-items l.b-index (number_bytes (l.n - l.b-index) l.rest) ≡ sets l.initial.b-items 0 (number_bytes l.n l.number)
