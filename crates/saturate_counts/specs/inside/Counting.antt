-- What the facts about a thing add to the counts of the columns. Definitions only.
use Rattle.std.specs.Prelude.{◌≡◌, cond, List, ℕ, ◌+◌, ◌≤◌, ◌<◌, length, get_or, eqb, ltb}
use Rattle.saturate_schema.specs.inside.Nodes.{property_node}
use Rattle.saturate_schema.specs.inside.Squares.{at}
use Rattle.saturate_schema.specs.inside.Sums.{sum_to}
use Rattle.saturate_schema.specs.inside.Compiled.{subject_at, property_at, node_bit, either}

-- To the counts of the columns below end the bits were added; the others are as before.
pub record Added (counts₀ counts : List ℕ) (bit : ℕ → ℕ) (end : ℕ) : Type 0 where
  pub same : length counts ≡ length counts₀
  pub below : (c : ℕ) → c < end → get_or counts c 0 ≡ get_or counts₀ c 0 + bit c
  pub above : (c : ℕ) → end ≤ c → get_or counts c 0 ≡ get_or counts₀ c 0

-- Column c of row g of the square of domains; of the classes, those below nc, the square of ranges may have it too.
abbrev pub either_at : List ℕ → List ℕ → ℕ → ℕ → ℕ → ℕ
either_at d r nc g c = cond (ltb c nc) (either (at d g c) (at r g c)) (at d g c)

-- What fact y, of another subject than x, adds to column c by range; 0 where its subject is x.
unfoldable pub other_bit : List ℕ → ℕ → List ℕ → List ℕ → ℕ → ℕ → ℕ → ℕ
other_bit st m r f x c y = cond (eqb (subject_at f y) x) 0 (node_bit st m r (property_node (property_at f y)) c)

-- To the counts of the columns below end the sums of h c over the places a .. b were added; the others are as before.
pub record Summed (counts₀ counts : List ℕ) (h : ℕ → ℕ → ℕ) (end a b : ℕ) : Type 0 where
  pub same : length counts ≡ length counts₀
  pub below : (c : ℕ) → c < end → get_or counts c 0 + sum_to (h c) a ≡ get_or counts₀ c 0 + sum_to (h c) b
  pub above : (c : ℕ) → end ≤ c → get_or counts c 0 ≡ get_or counts₀ c 0
