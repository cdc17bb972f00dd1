use Prim.Native.Nat.{◌-◌}
use mathlib.Core.Path.{◌≡◌}
use lib.ListN.{length}
use Rattle.spec_ntriples.specs.Texts.{Text}
use Rattle.ntriples_bytes.specs.inside.Places.{HasText}
use Rattle.ntriples_text.specs.inside.Tokens.{Left}
use Rattle.ntriples_text.proofs.Passing.{Wrote}
use Rattle.ntriples_text_written.proofs.write_text.Given as goal

abbrev pub invariant-loop-c : goal.invariant-loop-c
invariant-loop-c l = ((t : Text) → HasText l.line l.from l.end t → Left l.line l.end l.c (Wrote l.initial.out l.out l.at l.i t.bytes)) × (length l.out ≡ length l.initial.out)

abbrev pub decreases-loop-c : goal.decreases-loop-c
decreases-loop-c l = l.end - l.c.place
