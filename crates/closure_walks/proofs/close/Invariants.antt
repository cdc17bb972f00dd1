-- The bits of the rows are the walks by the statements below j; a statement that applies extends them.
use Rattle.saturate_schema.specs.inside.Nodes.{edges}
use Rattle.saturate_schema.specs.inside.Squares.{Closed}
use Rattle.closure_words.specs.inside.Layout.{bit_at}
use Rattle.closure_walks.proofs.close.Given as goal

abbrev pub invariant-loop-j : goal.invariant-loop-j
invariant-loop-j l = Closed l.statements l.m l.columns l.ns (bit_at l.closure) (edges l.statements 0 l.j)
