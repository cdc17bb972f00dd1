-- The statements as edges between nodes, and the nodes that they end at as columns. A class is the node of its term, a
-- property the node of its term and 2 ^ 32. st are the words of a table of statements, m is their number. Definitions only.
use Rattle.std.specs.Prelude.{◌≡◌, Bool, true, cond, List, [], ◌∷◌, ℕ, zero, suc, ◌+◌, ◌*◌, ◌^◌, ◌≤◌, ◌<◌, get_or, eqb}
use Rattle.saturate_schema.specs.inside.Walks.{Edge}

-- The node of the property p.
abbrev pub property_node : ℕ → ℕ
property_node p = p + 2 ^ 32

-- The node that statement i starts at: of 2 its subject as a class, of 3, 4 and 5 its subject as a property.
unfoldable pub subject_node : List ℕ → ℕ → ℕ
subject_node st i = cond (eqb (get_or st (i * 3 + 2) 0) 2) (get_or st (i * 3 + 1) 0) (get_or st (i * 3 + 1) 0 + 2 ^ 32)

-- The node that it ends at: of 3 its object as a property, of 2, 4 and 5 its object as a class.
unfoldable pub object_node : List ℕ → ℕ → ℕ
object_node st i = cond (eqb (get_or st (i * 3 + 2) 0) 3) (get_or st (i * 3 + 3) 0 + 2 ^ 32) (get_or st (i * 3 + 3) 0)

-- Whether statement i is one of 2, 3 and via, which is 4 or 5.
unfoldable pub applies : List ℕ → ℕ → ℕ → Bool
applies st via i = cond (eqb (get_or st (i * 3 + 2) 0) 2) true (cond (eqb (get_or st (i * 3 + 2) 0) 3) true (eqb (get_or st (i * 3 + 2) 0) via))

-- The edges of those of the first n statements that are.
unfoldable pub edges : List ℕ → ℕ → ℕ → List Edge
edges st via zero = []
edges st via (suc n) = cond (applies st via n) ((subject_node st n, object_node st n) ∷ edges st via n) (edges st via n)

-- Where x stands among what f gives below n; n where it does not.
pub data Found (f : ℕ → ℕ) (n x r : ℕ) : Type 0 where
  found : r < n → f r ≡ x → Found f n x r
  none : r ≡ n → ((c : ℕ) → c < n → ¬ (f c ≡ x)) → Found f n x r

-- Word k of a list.
abbrev pub word : List ℕ → ℕ → ℕ
word l k = get_or l k 0

-- The ns columns of the m statements: each node once, and among them each that a statement ends at.
pub record Columns (st : List ℕ) (m : ℕ) (col : List ℕ) (ns : ℕ) : Type 0 where
  pub few : ns ≤ 512
  pub rows : m ≤ 512
  pub once : (c d : ℕ) → c < ns → d < ns → get_or col c 0 ≡ get_or col d 0 → c ≡ d
  pub all : (i c : ℕ) → i < m → Found (word col) ns (object_node st i) c → c < ns
