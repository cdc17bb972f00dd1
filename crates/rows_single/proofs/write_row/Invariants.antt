-- `write_row` stores the words of a row one after the other.
use Prim.Native.Nat.{◌*◌}
use Rattle.rows_single.proofs.Writing.{WriteLoop}
use Rattle.rows_single.proofs.write_row.Given as goal

abbrev pub invariant-loop-k : goal.invariant-loop-k
invariant-loop-k l = WriteLoop (l.n * l.m) l.k l.row l.initial.out l.out
