-- What is inside labels and tags. Definitions only.
use Rattle.std.specs.Prelude.{ℕ, Bool, List, [], ◌∷◌}
use Rattle.spec_ntriples.specs.Characters.{is_letter, is_letter_or_digit}
use Rattle.spec_ntriples.specs.computed.Terminals.{Got, none, got}
use Rattle.ntriples_labels.specs.declared.Part.{Part}
use Rattle.ntriples_labels.specs.declared.Part.TheVariants.{First, Later}
use Rattle.ntriples_terminals.specs.inside.Ends.{Behind, nowhere, behind}

-- What is behind a label of which some is read, where the last that surely belongs to it is before some characters.
unfoldable pub behind_label : List ℕ → Got → Behind
behind_label last none = nowhere
behind_label last (got [] rest) = behind last
behind_label last (got (c ∷ cs) rest) = behind rest

-- What goes on a tag: letters at first, and then also digits.
unfoldable pub goes_on : Part → ℕ → Bool
goes_on First = λ c. is_letter c
goes_on Later = λ c. is_letter_or_digit c
