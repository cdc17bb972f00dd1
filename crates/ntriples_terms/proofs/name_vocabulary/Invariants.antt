use mathlib.Core.Path.{◌≡◌}
use mathlib.Core.List.{List}
use Prim.Native.Nat.{◌-◌, ◌≤◌}
use lib.ListN.{length}
use Rattle.spec_ntriples.specs.Texts.{TextTriple}
use Rattle.spec_ntriples.specs.Dictionary.{vocabulary_of}
use Rattle.ntriples_terms.specs.inside.Words.{triple_by, LinesAt}
use Rattle.ntriples_terms.proofs.Rows.{Written}
use Rattle.ntriples_terms.proofs.name_vocabulary.Given as goal

abbrev pub invariant-loop-i : goal.invariant-loop-i
invariant-loop-i l = (length l.terms ≡ length l.initial.terms) × ((ts : List TextTriple) → LinesAt l.file l.lines l.n ts → Written (λ t r. triple_by vocabulary_of t) ts l.i l.initial.terms l.terms)
