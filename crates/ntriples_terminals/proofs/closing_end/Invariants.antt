use mathlib.Core.Path.{◌≡◌}
use Rattle.ntriples_bytes.specs.inside.Places.{Utf8From}
use lib.ListN.{length}
use Prim.Native.Nat.{◌-◌}
use Rattle.ntriples_terminals.proofs.Ending.{closes}
use Rattle.ntriples_terminals.proofs.closing_end.Given as goal

abbrev pub invariant-loop-at : goal.invariant-loop-at
invariant-loop-at l = Utf8From l.line l.at × (closes l.terminal l.line l.from ≡ closes l.terminal l.line l.at)

abbrev pub decreases-loop-at : goal.decreases-loop-at
decreases-loop-at l = length l.line - l.at
