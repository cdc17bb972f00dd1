-- What the program `kept_ntriples` prints (document 02, slip 3). Definitions only.
use Rattle.std.specs.Prelude.{ℕ, List, []}
use Rattle.report_text.specs.Text.{refusal_text}

-- What is printed: the bytes on standard output, and those on standard error.
pub record Printout : Type 0 where
  pub output : List ℕ
  pub errors : List ℕ

-- The one of these bytes.
abbrev pub printout : List ℕ → List ℕ → Printout
printout o e = record { output = o; errors = e }

-- A refusal: the word refused and the number on standard error, and nothing on standard output.
abbrev pub refusal : ℕ → Printout
refusal n = printout [] (refusal_text n)
