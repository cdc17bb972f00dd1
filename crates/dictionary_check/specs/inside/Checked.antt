-- Question 1 for a dictionary. Definitions only.
use Rattle.std.specs.Prelude.{ℕ, ◌≡◌, true, false, List, Option, None, Some}
use Rattle.spec_ntriples.specs.Dictionary.{entries, is_dictionary}
use Rattle.dictionary_bytes.specs.inside.Entries.{FilledBy}
use Rattle.dictionary_bytes.specs.declared.Filled.{Filled}

-- Question 1 for a dictionary, and how far it is filled.
abbrev pub IsChecked : List ℕ → Option Filled → Type 0
IsChecked bs None = is_dictionary bs ≡ false
IsChecked bs (Some f) = (is_dictionary bs ≡ true) × FilledBy bs f (entries bs)
