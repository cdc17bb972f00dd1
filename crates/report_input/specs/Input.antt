-- The file that a program reads (docs/DECISIONS.md, 75). Definitions only.
use Rattle.std.specs.Prelude.{ℕ, List}
use Rattle.spec_ntriples.specs.Characters.{codes}
use Rattle.report_text.specs.Text.{newline, labelled}

-- The most bytes of a file.
abbrev pub most_input : ℕ
most_input = 1048576

-- What is printed for a file that is longer.
unfoldable pub too_long : List ℕ
too_long = labelled (codes "the input has more bytes than ") most_input newline
