use mathlib.Core.Path.{◌≡◌}
use mathlib.Core.Bool.{◌&&◌}
use lib.ListN.{drop}
use Rattle.spec.specs.Tables.{are_zero}
use Rattle.dictionary_check.proofs.are_bytes_zero.Given as goal

abbrev pub invariant-loop-b : goal.invariant-loop-b
invariant-loop-b l = are_zero l.b-items ≡ (l.ok && are_zero (drop l.b-index l.b-items))
