-- What is behind parts of terms. Definitions only.
use Rattle.std.specs.Prelude.{ℕ, ◌||◌, cond, List, [], ◌∷◌, eqb}
use Prim.Native.Char.{code}
use Rattle.spec_ntriples.specs.Characters.{is_letter, is_digit, is_pn_chars_u}
use Rattle.spec_ntriples.specs.computed.Terminals.{label, head_is, tag}
use Rattle.spec_ntriples.specs.computed.Lines.{read_type}
use Rattle.ntriples_terminals.specs.inside.Ends.{Behind, nowhere, behind, behind_got, behind_read}

-- What is behind a label.
unfoldable pub behind_labelled : List ℕ → Behind
behind_labelled [] = nowhere
behind_labelled (c ∷ cs) = cond (is_pn_chars_u c || is_digit c) (behind_got (label cs)) nowhere

-- What is behind a language tag.
unfoldable pub behind_tag : List ℕ → Behind
behind_tag cs = cond (head_is is_letter cs) (behind_got (tag is_letter cs)) nowhere

-- What is behind a literal without one: its datatype, or its string.
unfoldable pub behind_type : List ℕ → List ℕ → List ℕ → Behind
behind_type string end [] = behind end
behind_type string end (c ∷ cs) = cond (eqb c (code "^")) (behind_read (read_type string cs)) (behind end)
