use mathlib.Core.Path.{◌≡◌}
use mathlib.Core.Bool.{true}
use mathlib.Core.List.{List}
use Prim.Native.Nat.{ℕ}
use lib.ListN.{drop}
use Rattle.spec.specs.Lists.{all}
use Rattle.spec.specs.Tables.{rows}
use Rattle.spec_ntriples.specs.Dictionary.{entries, is_dictionary}
use Rattle.spec_writing.specs.Writing.{has_text, has_texts}
use Rattle.dictionary_bytes.specs.inside.Entries.{FilledBy}
use Rattle.ntriples_have_texts.proofs.have_texts.Given as goal

abbrev pub invariant-loop-term : goal.invariant-loop-term
invariant-loop-term l = (bs : List ℕ) → is_dictionary bs ≡ true → FilledBy bs l.f (entries bs) → all (has_text (entries bs)) (drop l.term-index l.term-items) ≡ all (has_texts (entries bs)) (rows l.table)
