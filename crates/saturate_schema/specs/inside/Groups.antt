-- The group of a class or a property: the statements about it, which stand together. Definitions only.
use Rattle.std.specs.Prelude.{◌≡◌, List, ℕ, ◌+◌, ◌*◌, ◌^◌, ◌≤◌, ◌<◌, get_or}
use Rattle.table.specs.inside.Bounds.{Rising}
use Rattle.saturate_schema.specs.inside.Nodes.{subject_node}

-- The m statements ascend, and their properties are 2 to 5. Every well-formed table of statements is so.
pub record Statements (st : List ℕ) (m : ℕ) : Type 0 where
  pub rising : Rising st m
  pub kinds : (k : ℕ) → k < m → (2 ≤ get_or st (k * 3 + 2) 0) × (get_or st (k * 3 + 2) 0 ≤ 5)
  pub small : (k : ℕ) → k < m → get_or st (k * 3 + 1) 0 < 2 ^ 32

-- The statements that start at the node x have the subject a and the property k or a greater one, and one with that subject and a
-- property between k and that of such a statement starts there too.
pub record Group (st : List ℕ) (m a k x : ℕ) : Type 0 where
  pub has : (i : ℕ) → i < m → subject_node st i ≡ x → (get_or st (i * 3 + 1) 0 ≡ a) × (k ≤ get_or st (i * 3 + 2) 0)
  pub down : (i j : ℕ) → i < m → j < m → subject_node st j ≡ x → get_or st (i * 3 + 1) 0 ≡ a → k ≤ get_or st (i * 3 + 2) 0 → get_or st (i * 3 + 2) 0 ≤ get_or st (j * 3 + 2) 0
      → subject_node st i ≡ x
