use Prim.Native.Nat.{◌-◌, ◌<◌}
use mathlib.Core.Path.{◌≡◌}
use Rattle.spec_ntriples.specs.Texts.{Text}
use Rattle.ntriples_bytes.specs.inside.Places.{HasText}
use Rattle.ntriples_text.specs.inside.Tokens.{Left}
use Rattle.dictionary_hash.specs.inside.Hashes.{hash_from, hash}
use Rattle.ntriples_text.proofs.text_hash.Given as goal

abbrev pub invariant-loop-c : goal.invariant-loop-c
invariant-loop-c l = (l.h < 4294967296) × ((t : Text) → HasText l.line l.from l.end t → Left l.line l.end l.c (λ b. hash_from l.h b ≡ hash t.bytes))

abbrev pub decreases-loop-c : goal.decreases-loop-c
decreases-loop-c l = l.end - l.c.place
