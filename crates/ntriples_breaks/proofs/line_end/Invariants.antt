use Rattle.std.proofs.Common.{◌≡◌, ◌+◌, drop}
use Rattle.ntriples_breaks.specs.inside.Breaks.{line_length}
use Rattle.ntriples_breaks.proofs.line_end.Given as goal

abbrev pub invariant-loop-at : goal.invariant-loop-at
invariant-loop-at l = l.from + line_length (drop l.from l.file) ≡ l.at + line_length (drop l.at l.file)
