-- Laws of entries that have the next term of their kind. Assumes nothing.
use mathlib.Core.Path.{◌≡◌}
use mathlib.Core.Bool.{true, false}
use mathlib.Core.List.{List, [], ◌∷◌, ◌++◌}
use borrow.Author.Tests.{eq-eqb, ne_eqb}
use Rattle.spec_ntriples.specs.Dictionary.{Entry, kind_of, next_term, are_numbered}
use Rattle.spec_ntriples.proofs.Numbers.{numbered_split}

-- With one entry more.
pub numbered_more : (es : List Entry) (e : Entry) → are_numbered [] es ≡ true → e.term ≡ next_term (kind_of e.text) es → are_numbered [] (es ++ (e ∷ [])) ≡ true
unfolding are_numbered
numbered_more es e h q = rw (numbered_split [] es (e ∷ []), h, eq-eqb e.term (next_term (kind_of e.text) es) q)

-- One that has another term.
pub other_term : (es : List Entry) (e : Entry) (rest : List Entry) → are_numbered [] es ≡ true → (e.term ≡ next_term (kind_of e.text) es → ⊥) → are_numbered [] (es ++ (e ∷ rest)) ≡ false
unfolding are_numbered
other_term es e rest h q = rw (numbered_split [] es (e ∷ rest), h, ne_eqb e.term (next_term (kind_of e.text) es) q)
