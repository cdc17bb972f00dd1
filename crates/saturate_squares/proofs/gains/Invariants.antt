-- The columns below c are worked out.
use Rattle.saturate_schema.specs.inside.Squares.{at, Gained}
use Rattle.saturate_schema.specs.inside.Nodes.{word}
use Rattle.saturate_squares.proofs.gains.Given as goal

abbrev pub invariant-loop-c : goal.invariant-loop-c
invariant-loop-c l = Gained (at l.square) (word l.gain) l.go l.m l.so l.c
