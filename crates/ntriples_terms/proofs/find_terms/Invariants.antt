use mathlib.Core.Path.{◌≡◌}
use mathlib.Core.List.{List}
use Prim.Native.Nat.{◌-◌, ◌≤◌}
use lib.ListN.{length}
use Rattle.spec_ntriples.specs.Texts.{TextTriple}
use Rattle.spec_ntriples.specs.Dictionary.{Entry}
use Rattle.dictionary_search.specs.inside.IndexOf.{IndexOf}
use Rattle.ntriples_terms.specs.inside.Words.{found_row, LinesAt}
use Rattle.ntriples_terms.proofs.Rows.{Written}
use Rattle.ntriples_terms.proofs.find_terms.Given as goal

abbrev pub invariant-loop-i : goal.invariant-loop-i
invariant-loop-i l = (length l.terms ≡ length l.initial.terms) × ((es : List Entry) (ts : List TextTriple) → IndexOf l.slots l.dictionary l.first es → LinesAt l.file l.lines l.n ts → Written (found_row es) ts l.i l.initial.terms l.terms)
