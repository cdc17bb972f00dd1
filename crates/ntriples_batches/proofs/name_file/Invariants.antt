use Prim.Native.Nat.{◌≤◌}
use mathlib.Core.Path.{◌≡◌}
use mathlib.Core.List.{List}
use lib.ListN.{length}
use Rattle.spec_ntriples.specs.Texts.{TextTriple}
use Rattle.spec_ntriples.specs.computed.Lines.{triples, document}
use Rattle.spec_ntriples.specs.Dictionary.{Entry}
use Rattle.dictionary_bytes.specs.inside.Entries.{FilledBy}
use Rattle.ntriples_batches.proofs.Files.{Underway}
use Rattle.ntriples_batches.proofs.name_file.Given as goal

abbrev pub invariant-loop-left : goal.invariant-loop-left
invariant-loop-left l = (length l.dictionary ≡ length l.initial.dictionary) × (length l.terms ≡ length l.initial.terms) × (length l.lines ≡ 5460) × (l.from ≤ length l.file) × ((es : List Entry) (ts : List TextTriple) → document l.file ≡ triples ts → l.n ≡ length ts → FilledBy l.initial.dictionary l.initial.filled es → Underway l.file es ts l.dictionary l.from l.left l.filled l.terms)

abbrev pub decreases-loop-left : goal.decreases-loop-left
decreases-loop-left l = l.left
