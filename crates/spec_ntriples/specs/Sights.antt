-- Texts in order of first sight, and the texts of terms (document 02, slip 1). Definitions only.
use Rattle.std.specs.Prelude.{ℕ, ◌-◌, Bool, false, ◌||◌, cond, get_or, eqb}
use mathlib.Core.List.{List, [], ◌∷◌, ◌++◌, map, flat_map}
use Rattle.spec.specs.declared.Triple.{Triple}
use Rattle.spec.specs.Terms.{is_vocabulary}
use Rattle.spec_ntriples.specs.Texts.{is_same_text, TextTriple}
use Rattle.spec_ntriples.specs.Dictionary.{Entry, vocabulary_texts}

-- ---- texts in order of first sight

-- The texts of a triple: subject, property, object. A datatype is in none of them by itself.
unfoldable pub triple_texts : TextTriple → List (List ℕ)
triple_texts t = t.subject.bytes ∷ t.property.bytes ∷ t.object.bytes ∷ []

-- The texts of some triples, line by line.
unfoldable pub file_texts : List TextTriple → List (List ℕ)
file_texts ts = flat_map triple_texts ts

-- Whether a text is among some.
unfoldable pub is_among : List ℕ → List (List ℕ) → Bool
is_among t [] = false
is_among t (u ∷ us) = is_same_text t u || is_among t us

-- "Each new text .. in order of first sight": of some texts those that are not known, each once, where it comes first.
unfoldable pub first_sights : List (List ℕ) → List (List ℕ) → List (List ℕ)
first_sights known [] = []
first_sights known (t ∷ ts) = cond (is_among t known) (first_sights known ts) (t ∷ first_sights (known ++ (t ∷ [])) ts)

-- The texts that have a term where some entries are: the vocabulary's and theirs.
unfoldable pub known_texts : List Entry → List (List ℕ)
known_texts es = vocabulary_texts ++ map (λ (e : Entry). e.text) es

-- ---- texts of terms

-- The text of a term among entries, none where no entry has it.
unfoldable pub text_in : List Entry → ℕ → List ℕ
text_in [] w = []
text_in (e ∷ es) w = cond (eqb w e.term) e.text (text_in es w)

-- The text of a term in a dictionary: the vocabulary's, or its entry's; none where it has none.
unfoldable pub text_of : List Entry → ℕ → List ℕ
text_of es w = cond (is_vocabulary w) (get_or vocabulary_texts (w - 1) []) (text_in es w)

-- The texts of a triple's words: subject, property, object.
unfoldable pub word_texts : List Entry → Triple → List (List ℕ)
word_texts es t = text_of es t.subject ∷ text_of es t.property ∷ text_of es t.object ∷ []
