-- The bits of the square are the walks by the statements below j; a statement that applies extends them.
use Rattle.saturate_schema.specs.inside.Nodes.{edges}
use Rattle.saturate_schema.specs.inside.Squares.{at, Bits, Closed}
use Rattle.saturate_squares.proofs.close.Given as goal

abbrev pub invariant-loop-j : goal.invariant-loop-j
invariant-loop-j l = Closed l.statements l.m l.columns l.ns (at l.square) (edges l.statements l.via l.j) × Bits l.square
