-- The rows below i that lead to the node have gain; the others are as before.
use Rattle.saturate_schema.specs.inside.Squares.{at, Bits, Leads}
use Rattle.saturate_schema.specs.inside.Nodes.{word}
use Rattle.saturate_schema.proofs.Squares.{Spread}
use Rattle.saturate_squares.proofs.close_statement.Given as goal

abbrev pub invariant-loop-i : goal.invariant-loop-i
invariant-loop-i l = Spread (at l.initial.square) (at l.square) (word l.gain) (Leads l.statements (at l.initial.square) l.s l.ss l.ns) l.ns l.i × (Bits l.initial.square → Bits l.square)
