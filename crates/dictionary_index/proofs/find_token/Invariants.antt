use Prim.Native.Nat.{◌≤◌}
use Rattle.spec_ntriples.specs.Texts.{Text}
use Rattle.ntriples_bytes.specs.inside.Places.{HasText}
use Rattle.dictionary_index.specs.inside.Index.{Passed}
use Rattle.dictionary_index.proofs.find_token.Given as goal

abbrev pub invariant-loop-s : goal.invariant-loop-s
invariant-loop-s l = (l.home ≤ l.s) × ((t : Text) → HasText l.line l.from l.end t → Passed l.slots l.dictionary l.first t.bytes l.home l.s)
