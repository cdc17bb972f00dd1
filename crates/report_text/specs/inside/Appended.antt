-- Text appended to lent bytes, as the functions that write it ask for it and leave it. Definitions only.
use Rattle.std.specs.Prelude.{ℕ, ◌+◌, ◌*◌, ◌≤◌, ◌<◌, ◌≡◌, List, ◌++◌, length, take, drop}
use Rattle.spec.specs.Tables.{count}

-- The bytes out' are out with a text in the place of as many bytes from index at on; it ends before index end.
pub record Appended (text : List ℕ) (at : ℕ) (out out' : List ℕ) (end : ℕ) : Type 0 where
  pub ends : end ≡ at + length text
  pub start_and_text : take end out' ≡ take at out ++ text
  pub rest : drop end out' ≡ drop end out

-- The most bytes of a number of 32 bits with the byte after it.
abbrev pub field_room : ℕ
field_room = 11

-- The most bytes of a row's line.
abbrev pub row_room : ℕ
row_room = 44

-- The most bytes of the line of the result.
abbrev pub result_room : ℕ
result_room = 74

-- The most bytes of the lines before the rows.
abbrev pub head_room : ℕ
head_room = result_room + 16

-- "4,096 kept facts": the most bytes of a response.
abbrev pub response_room : ℕ
response_room = head_room + 4096 * row_room

-- Kept facts with their supports can be read, and their lines have room from index at on.
pub record Printable (K U out : List ℕ) (at : ℕ) : Type 0 where
  pub words : count K * 3 < length K
  pub places : count K ≤ length U
  pub room : at + count K * row_room ≤ length out
