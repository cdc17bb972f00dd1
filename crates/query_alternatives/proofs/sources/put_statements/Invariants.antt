-- At each turn the alternatives of the first i statements were put. Assumes nothing.
use Rattle.query_alternatives.specs.inside.Putting.{Puts, alternatives_below}
use Rattle.query_alternatives.proofs.sources.put_statements.Given as goal

abbrev pub invariant-loop-i : goal.invariant-loop-i
invariant-loop-i l = Puts (alternatives_below l.statements l.atom l.i) l.initial.out l.initial.c l.out l.c
