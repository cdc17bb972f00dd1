use Prim.Native.Nat.{ℕ}
use lib.ListN.{length-replicate}
use Rattle.dictionary_slots.proofs.Zeros.{zero-at}
use Rattle.dictionary_slots.proofs.no_slots.Goals as goal

-- src/lib.rt:24:1
pub returns : goal.returns
returns c = (length-replicate {A = ℕ} 65536 0, zero-at 65536)
