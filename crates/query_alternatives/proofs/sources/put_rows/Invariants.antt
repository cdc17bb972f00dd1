-- At each turn the alternatives of the first i rows were put. Assumes nothing.
use mathlib.Core.List.{flat_map}
use Rattle.spec.specs.Tables.{first_rows}
use Rattle.query_alternatives.specs.inside.Putting.{Puts, given}
use Rattle.query_alternatives.proofs.sources.put_rows.Given as goal

abbrev pub invariant-loop-i : goal.invariant-loop-i
invariant-loop-i l = Puts (flat_map (given l.atom l.source) (first_rows l.i l.list)) l.initial.out l.initial.c l.out l.c
