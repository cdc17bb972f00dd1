-- What is written before the bits of a closure: the counts and the terms of the columns. col are the ns columns, of which nc are classes, ws₀
-- and ws the words of the closure before and after. Definitions only.
use Rattle.std.specs.Prelude.{◌≡◌, List, ℕ, ◌<◌, get_or}
use Rattle.saturate_schema.specs.inside.Ascent.{term_of}
use Rattle.closure_words.specs.inside.Layout.{classes_of, columns_of, term_at, bit_at}

-- The counts and the terms of the columns are written; the bits are as before.
pub record Headed (col : List ℕ) (ns nc : ℕ) (ws₀ ws : List ℕ) : Type 0 where
  pub classes : classes_of ws ≡ nc
  pub columns : columns_of ws ≡ ns
  pub terms : (c : ℕ) → c < ns → term_at ws c ≡ term_of (get_or col c 0)
  pub bits : (i c : ℕ) → bit_at ws i c ≡ bit_at ws₀ i c
