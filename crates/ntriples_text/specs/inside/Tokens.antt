-- Terms that stand in a line, and their canonical texts. Definitions only.
use Rattle.std.specs.Prelude.{ℕ, ◌+◌, ◌≤◌, List, length}
use Rattle.spec_ntriples.specs.Texts.{Text}
use Rattle.ntriples_bytes.specs.inside.Places.{HasText}
use Rattle.ntriples_cursor.specs.inside.Coming.{Coming}
use Rattle.ntriples_cursor.specs.declared.Cursor.{Cursor}

-- The bytes of a line from one index to another are a term.
pub record IsToken (line : List ℕ) (from end : ℕ) : Type 0 where
  pub text : Text
  pub has : HasText line from end text

-- The same, and the term's text has room from an index on.
pub record HasRoom (line : List ℕ) (from end : ℕ) (out : List ℕ) (at : ℕ) : Type 0 where
  pub text : Text
  pub has : HasText line from end text
  pub room : at + length text.bytes ≤ length out

-- Of the bytes that are to come for a cursor, something holds.
pub record Left (line : List ℕ) (end : ℕ) (c : Cursor) (holds : List ℕ → Type 0) : Type 0 where
  pub left : List ℕ
  pub coming : Coming line end c left
  pub sound : holds left
