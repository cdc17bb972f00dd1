-- The columns of the words below w are worked out.
use Prim.Native.Nat.{◌*◌}
use Rattle.saturate_schema.specs.inside.Squares.{Gained}
use Rattle.closure_words.specs.inside.Layout.{bit_at}
use Rattle.closure_rows.specs.inside.Rows.{row_bit}
use Rattle.closure_rows.proofs.gains.Given as goal

abbrev pub invariant-loop-w : goal.invariant-loop-w
invariant-loop-w l = Gained (bit_at l.closure) (row_bit l.gain) l.go l.m l.so (l.w * 32)
