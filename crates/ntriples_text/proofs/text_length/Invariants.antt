use Prim.Native.Nat.{◌+◌, ◌-◌, ◌≤◌}
use mathlib.Core.Path.{◌≡◌}
use lib.ListN.{length}
use Rattle.spec_ntriples.specs.Texts.{Text}
use Rattle.ntriples_bytes.specs.inside.Places.{HasText}
use Rattle.ntriples_text.specs.inside.Tokens.{Left}
use Rattle.ntriples_text.proofs.text_length.Given as goal

abbrev pub invariant-loop-c : goal.invariant-loop-c
invariant-loop-c l = (l.from + l.n ≤ l.c.place) × ((t : Text) → HasText l.line l.from l.end t → Left l.line l.end l.c (λ b. l.n + length b ≡ length t.bytes))

abbrev pub decreases-loop-c : goal.decreases-loop-c
decreases-loop-c l = l.end - l.c.place
