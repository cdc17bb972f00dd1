use mathlib.Core.Path.{◌≡◌}
use Rattle.ntriples_bytes.specs.inside.Places.{Utf8From, chars_at}
use lib.ListN.{length}
use Prim.Native.Nat.{◌-◌}
use Rattle.spec_ntriples.specs.computed.Terminals.{skip}
use Rattle.ntriples_terminals.proofs.skip.Given as goal

abbrev pub invariant-loop-at : goal.invariant-loop-at
invariant-loop-at l = Utf8From l.line l.at × (skip (chars_at l.line l.from) ≡ skip (chars_at l.line l.at))

abbrev pub decreases-loop-at : goal.decreases-loop-at
decreases-loop-at l = length l.line - l.at
