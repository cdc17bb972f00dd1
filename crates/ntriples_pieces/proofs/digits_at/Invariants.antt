use Rattle.std.proofs.Common.{◌-◌}
use Rattle.ntriples_pieces.proofs.Reading.{Digits}
use Rattle.ntriples_pieces.proofs.digits_at.Given as goal

abbrev pub invariant-loop : goal.invariant-loop
invariant-loop l = Digits l.terminal l.line l.from l.count (l.count - l.counter) l.value l.at
