-- The closed pairs of a table of statements as words: how many columns are classes, how many there are, the terms of the columns (512 words,
-- the classes first), and for each statement 16 words with a bit for each column. Definitions only.
use Rattle.std.specs.Prelude.{◌≡◌, cond, List, ℕ, ◌+◌, ◌*◌, ◌/◌, ◌%◌, ◌≤◌, ◌<◌, length, get_or, eqb}
use Rattle.spec.specs.Terms.{sub_class_of}
use Rattle.query_keys.specs.inside.Bits.{bit_of}

-- How many of the columns are classes.
abbrev pub classes_of : List ℕ → ℕ
classes_of ws = get_or ws 0 0

-- How many columns there are.
abbrev pub columns_of : List ℕ → ℕ
columns_of ws = get_or ws 1 0

-- The term of column c.
abbrev pub term_at : List ℕ → ℕ → ℕ
term_at ws c = get_or ws (c + 2) 0

-- The bit of statement i and column c.
abbrev pub bit_at : List ℕ → ℕ → ℕ → ℕ
bit_at ws i c = bit_of (get_or ws (514 + i * 16 + c / 32) 0) (c % 32)

-- Where the columns of the property k begin: of 2, the classes; of another, the properties.
unfoldable pub first_column : List ℕ → ℕ → ℕ
first_column ws k = cond (eqb k sub_class_of) 0 (classes_of ws)

-- Where they end.
unfoldable pub end_column : List ℕ → ℕ → ℕ
end_column ws k = cond (eqb k sub_class_of) (classes_of ws) (columns_of ws)

-- Column c is one of them.
pub record IsColumn (ws : List ℕ) (k c : ℕ) : Type 0 where
  pub from : first_column ws k ≤ c
  pub below : c < end_column ws k

-- The words are so laid out. The terms of the columns of a property ascend.
pub record Shaped (ws : List ℕ) : Type 0 where
  pub long : length ws ≡ 8706
  pub classes : classes_of ws ≤ columns_of ws
  pub few : columns_of ws ≤ 512
  pub rising : (k c d : ℕ) → first_column ws k ≤ c → c < d → d < end_column ws k → term_at ws c < term_at ws d
