-- The blocks of the facts of one subject that have one property, and those of them whose property leads to a column. Definitions only.
use Rattle.std.specs.Prelude.{◌≡◌, cond, List, ℕ, zero, suc, ◌+◌, ◌-◌, ◌*◌, ◌^◌, ◌≤◌, ◌<◌, length, get_or, eqb, ltb}
use Rattle.saturate_merge.specs.inside.Streams.{streams, tally, AllRising}
use Rattle.saturate_schema.specs.inside.Nodes.{property_node, subject_node}
use Rattle.saturate_schema.specs.inside.Compiled.{property_at, object_at, node_bit}
use Rattle.saturate_blocks.specs.inside.Sums.{sum_from}

-- 1 where fact y has the property q and the object o.
unfoldable pub same_at : List ℕ → ℕ → ℕ → ℕ → ℕ
same_at f q o y = cond (eqb (property_at f y) q) (cond (eqb (object_at f y) o) 1 0) 0

-- 1 where fact y has the object o and its property leads to column c.
unfoldable pub led_at : List ℕ → ℕ → List ℕ → List ℕ → ℕ → ℕ → ℕ → ℕ
led_at st m d f o c y = cond (eqb (object_at f y) o) (node_bit st m d (property_node (property_at f y)) c) 0

-- The facts i .. e of one subject: their properties do not fall, and in one property the objects rise.
pub record OneSubject (f : List ℕ) (i e : ℕ) : Type 0 where
  pub climb : (y : ℕ) → i ≤ y → y + 1 < e → property_at f y ≤ property_at f (y + 1)
  pub rise : (y : ℕ) → i ≤ y → y + 1 < e → property_at f y ≡ property_at f (y + 1) → object_at f y < object_at f (y + 1)
  pub small : (y : ℕ) → i ≤ y → y < e → object_at f y < 2 ^ 32

-- The facts a .. z are those from a on that have the property p.
pub record Block (f : List ℕ) (a z e p : ℕ) : Type 0 where
  pub grows : a < z
  pub ends : z ≤ e
  pub all : (k : ℕ) → a ≤ k → k < z → property_at f k ≡ p
  pub next : z < e → p < property_at f z

-- How many of the first m statements start at a node below v.
unfoldable pub starts_below : List ℕ → ℕ → ℕ → ℕ
starts_below st zero v = 0
starts_below st (suc m) v = cond (ltb (subject_node st m) v) 1 0 + starts_below st m v

-- To the first k₀ streams those blocks of the facts i .. y were added whose property leads to column c.
pub record Gathered (st : List ℕ) (m : ℕ) (d : List ℕ) (c : ℕ) (f ends₀ ends : List ℕ) (k₀ k i y e : ℕ) : Type 0 where
  pub low : i ≤ y
  pub high : y ≤ e
  pub same_ends : length ends ≡ length ends₀
  pub few : k ≤ k₀ + m
  pub fewer : y < e → k ≤ k₀ + starts_below st m (property_node (property_at f y))
  pub fits : (z : ℕ) → z < k → get_or ends (z * 2 + 1) 0 * 3 < length f
  pub rising : AllRising (streams f ends k)
  pub sums : (o : ℕ) → tally o (streams f ends k) ≡ tally o (streams f ends₀ k₀) + sum_from (led_at st m d f o c) i (y - i)
