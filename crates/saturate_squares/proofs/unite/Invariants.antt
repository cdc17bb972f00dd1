-- The columns below c of row a have what gain has.
use Rattle.saturate_schema.specs.inside.Squares.{United}
use Rattle.saturate_squares.proofs.unite.Given as goal

abbrev pub invariant-loop-c : goal.invariant-loop-c
invariant-loop-c l = United l.initial.square l.square l.gain l.a l.c
