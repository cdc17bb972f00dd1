-- Question 8 alone: bytes that fit an output or not. Definitions only.
use Rattle.std.specs.Prelude.{ℕ, cond, List, length, leb}
use Rattle.spec_writing.specs.Writing.{Written, give_bytes}

-- What bytes give in an output of so many: none says no to them, or 8.
unfoldable pub given_room : List ℕ → ℕ → Written
given_room bs len = give_bytes (cond (leb (length bs) len) 0 8) bs len
