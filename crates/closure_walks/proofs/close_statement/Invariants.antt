-- The rows below i that lead to the node have gain; the others are as before.
use Rattle.saturate_schema.specs.inside.Squares.{Leads}
use Rattle.saturate_schema.proofs.Squares.{Spread}
use Rattle.closure_words.specs.inside.Layout.{bit_at}
use Rattle.closure_rows.specs.inside.Rows.{row_bit}
use Rattle.closure_walks.proofs.close_statement.Given as goal

abbrev pub invariant-loop-i : goal.invariant-loop-i
invariant-loop-i l = Spread (bit_at l.initial.closure) (bit_at l.closure) (row_bit l.gain) (Leads l.statements (bit_at l.initial.closure) l.s l.ss l.ns) l.ns l.i
