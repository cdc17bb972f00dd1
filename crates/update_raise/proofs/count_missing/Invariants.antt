-- The invariant: so many of the rows passed are missing, whatever the supports of the kept facts.
use Rattle.update_raise.proofs.Missing.{Counting}
use Rattle.update_raise.proofs.count_missing.Given as goal

abbrev pub invariant-loop-j : goal.invariant-loop-j
invariant-loop-j l = Counting l.kept l.list l.c l.missing l.j
