-- The length of so many equal bytes, not counted out. Assumes nothing.
use Prim.Native.Nat.{ℕ}
use mathlib.Core.Path.{sym}
use lib.ListN.{length-replicate}
use Rattle.report_kept_rooms.proofs.output_buffer.Goals as goal

pub returns : goal.returns
returns c = sym (length-replicate {A = ℕ} 3145728 0)
