-- Where a line of bytes ends, and where the next begins. Definitions only.
use Rattle.std.specs.Prelude.{ℕ, suc, ◌≤◌, ◌<◌, ◌≡◌, Bool, cond, List, [], ◌∷◌, length, drop}
use Rattle.spec_ntriples.specs.Characters.{codes, is_one_of}

-- [7] EOL: CR and LF.
unfoldable pub is_eol : ℕ → Bool
is_eol c = is_one_of (codes "\r\n") c

-- How many bytes stand before the first CR or LF.
unfoldable pub line_length : List ℕ → ℕ
line_length [] = 0
line_length (b ∷ bs) = let n = line_length bs in cond (is_eol b) 0 (suc n)

-- An index from which on stand the bytes that are behind the one at another.
pub record IsNext (file : List ℕ) (end next : ℕ) : Type 0 where
  pub within : next ≤ length file
  pub same : drop next file ≡ drop (suc end) file
  pub after : (from : ℕ) → from ≤ end → from < length file → from < next
