-- In the rows below i the bit of their own node is cleared.
use Rattle.saturate_schema.specs.inside.Squares.{Cleared}
use Rattle.saturate_squares.proofs.clear_own.Given as goal

abbrev pub invariant-loop-i : goal.invariant-loop-i
invariant-loop-i l = Cleared l.statements l.columns l.ns l.initial.square l.square l.i
