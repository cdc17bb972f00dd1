use Prim.Native.Nat.{◌+◌, ◌-◌, ◌≤◌}
use mathlib.Core.Path.{◌≡◌}
use lib.ListN.{take, drop}
use Rattle.spec_ntriples.specs.Texts.{Text, is_same_text}
use Rattle.ntriples_bytes.specs.inside.Places.{HasText}
use Rattle.ntriples_text.specs.inside.Tokens.{Left}
use Rattle.ntriples_text_same.proofs.is_text.Given as goal

abbrev pub invariant-loop-c : goal.invariant-loop-c
invariant-loop-c l = (l.i ≤ l.n) × ((t : Text) → HasText l.line l.from l.end t → Left l.line l.end l.c (λ b. is_same_text t.bytes (take l.n (drop l.at l.text)) ≡ is_same_text b (take (l.n - l.i) (drop (l.at + l.i) l.text))))

abbrev pub decreases-loop-c : goal.decreases-loop-c
decreases-loop-c l = l.end - l.c.place
