use Prim.Native.Nat.{◌<◌}
use mathlib.Core.Path.{◌≡◌}
use lib.ListN.{drop}
use Rattle.dictionary_hash.specs.inside.Hashes.{hash_from}
use Rattle.dictionary_hash.proofs.hash_from.Given as goal

abbrev pub invariant-loop-b : goal.invariant-loop-b
invariant-loop-b l = (l.h < 4294967296) × (hash_from l.before l.b-items ≡ hash_from l.h (drop l.b-index l.b-items))
