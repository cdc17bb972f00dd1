use Prim.Native.Nat.{◌-◌}
use mathlib.Core.Path.{◌≡◌}
use mathlib.Core.List.{List}
use lib.ListN.{length}
use Rattle.spec_ntriples.specs.Texts.{TextTriple}
use Rattle.spec_ntriples.specs.Dictionary.{Entry}
use Rattle.dictionary_bytes.specs.inside.Entries.{FilledBy}
use Rattle.ntriples_last.specs.inside.Segments.{IsBatch, Looked}
use Rattle.ntriples_segments.proofs.name_batch.Given as goal

abbrev pub invariant-loop-g : goal.invariant-loop-g
invariant-loop-g l = (length l.dictionary ≡ length l.initial.dictionary) × (length l.terms ≡ length l.initial.terms) × ((es : List Entry) (ts : List TextTriple) → IsBatch l.file l.lines l.n ts → FilledBy l.initial.dictionary l.initial.filled es → Looked es ts l.dictionary l.first l.filled l.terms)

abbrev pub decreases-loop-g : goal.decreases-loop-g
decreases-loop-g l = length l.dictionary - l.first
