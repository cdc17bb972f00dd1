use mathlib.Core.Path.{◌≡◌}
use mathlib.Core.List.{List}
use Prim.Native.Nat.{◌*◌}
use lib.ListN.{length}
use Rattle.std.specs.Prelude.{Ok}
use Rattle.spec_ntriples.specs.Texts.{TextTriple}
use Rattle.spec_ntriples.specs.Dictionary.{Entry}
use Rattle.ntriples_naming.specs.inside.Progress.{lines_texts, Reached, Begins}
use Rattle.ntriples_names.proofs.name_terms.Given as goal

abbrev pub invariant-loop-i : goal.invariant-loop-i
invariant-loop-i l = (length l.slots ≡ length l.initial.slots) × (length l.dictionary ≡ length l.initial.dictionary) × (length l.terms ≡ length l.initial.terms) × ((ds es : List Entry) (ts : List TextTriple) → Begins ds es ts l.initial.slots l.initial.dictionary l.first l.initial.l l.file l.lines l.n l.initial.terms → Reached ds es (lines_texts ts) (l.i * 3) l.slots l.dictionary l.first l.terms (Ok l.l))
