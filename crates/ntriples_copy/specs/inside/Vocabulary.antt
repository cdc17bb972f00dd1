-- The texts of the vocabulary by their terms. Definitions only.
use Rattle.std.specs.Prelude.{ℕ, ◌-◌, List, [], get_or}
use Rattle.spec_ntriples.specs.Dictionary.{vocabulary_texts}

-- The text of a vocabulary URI, which every dictionary has.
abbrev pub vocabulary_text : ℕ → List ℕ
vocabulary_text w = get_or vocabulary_texts (w - 1) []
