-- Lent outputs of questions, alternatives and listings, and the reply, which readings and writings give too (document 01, "Questions and their rewriting"). Definitions only.
use Rattle.std.specs.Prelude.{ℕ, zero, suc, ◌/◌, Bool, List, length, replicate, leb, Result, Ok, Err}
use Rattle.spec.specs.Lists.{padded}
use Rattle.spec.specs.Rows.{flat}

-- Question 8: "do all rows fit the lent output?" Rows of m words, "and as many rows as fit whole".
unfoldable pub are_fitting : ℕ → ℕ → List (List ℕ) → Bool
are_fitting m len R = leb (length R) (len / m)

-- "Lent outputs hold rows alone, with no count word"; "unused words are zero".
unfoldable pub filled : ℕ → List (List ℕ) → List ℕ
filled len R = padded len (flat R)

-- A reply: how many rows, or bytes, were given, or the number that refused.
abbrev pub Reply : Type 0
Reply = Result ℕ ℕ

-- A reply with the words of the output after it.
pub record Replied : Type 0 where
  pub reply : Reply
  pub words : List ℕ

-- A reply and words.
abbrev pub replied : Reply → List ℕ → Replied
replied r ws = record { reply = r; words = ws }

-- The first "no" refuses and leaves the whole output zero; else the rows are given, with their count.
unfoldable pub give : ℕ → List (List ℕ) → ℕ → Replied
give (suc n) R len = replied (Err (suc n)) (replicate len 0)
give zero R len = replied (Ok (length R)) (filled len R)

-- The number of a reply, as the exported library gives it: 0, or the number that refused.
abbrev pub reply_number : Reply → ℕ
reply_number (Ok n) = 0
reply_number (Err n) = n

-- How many rows, or bytes, a reply gives, 0 where it is a refusal.
abbrev pub reply_count : Reply → ℕ
reply_count (Ok n) = n
reply_count (Err n) = 0
