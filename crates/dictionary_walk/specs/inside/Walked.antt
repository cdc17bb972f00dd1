-- A dictionary whose entries were all asked. Definitions only.
use Rattle.std.specs.Prelude.{ℕ, ◌≡◌, false, List, [], drop, Option, None, Some}
use Rattle.spec_ntriples.specs.Dictionary.{entries, is_dictionary}
use Rattle.dictionary_bytes.specs.declared.Filled.{Filled}
use Rattle.dictionary_step.specs.inside.Filling.{Filling}

-- All entries are asked.
pub record Walked (bs : List ℕ) (f : Filled) : Type 0 where
  pub filling : Filling bs f
  pub none : entries (drop f.end bs) ≡ []

-- So; or what makes the bytes no dictionary.
abbrev pub IsWalk : List ℕ → Option Filled → Type 0
IsWalk bs None = is_dictionary bs ≡ false
IsWalk bs (Some f) = Walked bs f
