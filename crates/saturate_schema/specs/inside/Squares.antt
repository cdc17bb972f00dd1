-- Bits, a row for each statement: row i says which columns statement i's subject leads to. st are the words of the m statements, col the
-- ns columns, bit gives the bit of a row and a column, and gain that of a column; sq are the words of a square, 512 bits to a row. Definitions only.
use Rattle.std.specs.Prelude.{◌≡◌, List, ◌↔◌, ◌⊎◌, ℕ, ◌+◌, ◌*◌, ◌≤◌, ◌<◌, get_or}
use Rattle.saturate_schema.specs.inside.Walks.{Edge, Plus}
use Rattle.saturate_schema.specs.inside.Nodes.{subject_node}

-- Column c of row i.
abbrev pub at : List ℕ → ℕ → ℕ → ℕ
at sq i c = get_or sq (i * 512 + c) 0

-- Each word is 0 or 1.
abbrev pub Bits : List ℕ → Type 0
Bits sq = (i c : ℕ) → c < 512 → at sq i c ≤ 1

-- From sq₀ to sq row a got the first k columns of gain; the rest is as before.
pub record United (sq₀ sq gain : List ℕ) (a k : ℕ) : Type 0 where
  pub hit : (c : ℕ) → c < k → get_or gain c 0 ≡ 1 → at sq a c ≡ 1
  pub miss : (c : ℕ) → c < 512 → ¬ (get_or gain c 0 ≡ 1) → at sq a c ≡ at sq₀ a c
  pub past : (c : ℕ) → c < 512 → k ≤ c → at sq a c ≡ at sq₀ a c
  pub other : (i c : ℕ) → c < 512 → ¬ (i ≡ a) → at sq i c ≡ at sq₀ i c

-- From bit₀ to bit the first n columns of row a got what gain has; the other rows are as before.
pub record Joined (bit₀ bit : ℕ → ℕ → ℕ) (gain : ℕ → ℕ) (a n : ℕ) : Type 0 where
  pub here : (c : ℕ) → c < n → (bit a c ≡ 1) ↔ ((bit₀ a c ≡ 1) ⊎ (gain c ≡ 1))
  pub other : (i c : ℕ) → c < n → ¬ (i ≡ a) → bit i c ≡ bit₀ i c

-- gain has column so, and what row go has.
abbrev pub Gained : (ℕ → ℕ → ℕ) → (ℕ → ℕ) → ℕ → ℕ → ℕ → ℕ → Type 0
Gained bit gain go m so ns = (c : ℕ) → c < ns → (gain c ≡ 1) ↔ ((c ≡ so) ⊎ ((go < m) × (bit go c ≡ 1)))

-- Row i is of the node s, or leads to it: its column is ss, ns where it has none.
abbrev pub Leads : List ℕ → (ℕ → ℕ → ℕ) → ℕ → ℕ → ℕ → ℕ → Type 0
Leads st bit s ss ns i = (subject_node st i ≡ s) ⊎ ((ss < ns) × (bit i ss ≡ 1))

-- From bit₀ to bit each of m rows that leads to the node s got what gain has.
abbrev pub Extended : List ℕ → ℕ → (ℕ → ℕ → ℕ) → (ℕ → ℕ → ℕ) → (ℕ → ℕ) → ℕ → ℕ → ℕ → Type 0
Extended st m bit₀ bit gain s ss ns = (i c : ℕ) → i < m → c < ns → (bit i c ≡ 1) ↔ ((bit₀ i c ≡ 1) ⊎ (Leads st bit₀ s ss ns i × (gain c ≡ 1)))

-- The bits of the rows are what P says of a statement's subject and a column.
abbrev pub Marks : List ℕ → ℕ → List ℕ → ℕ → (ℕ → ℕ → ℕ) → (ℕ → ℕ → Type 0) → Type 0
Marks st m col ns bit P = (i c : ℕ) → i < m → c < ns → (bit i c ≡ 1) ↔ P (subject_node st i) (get_or col c 0)

-- The bits are the walks by the edges E.
abbrev pub Closed : List ℕ → ℕ → List ℕ → ℕ → (ℕ → ℕ → ℕ) → List Edge → Type 0
Closed st m col ns bit E = Marks st m col ns bit (Plus E)

-- From sq₀ to sq the bit of its own node was cleared in the rows below k; the rest is as before.
pub record Cleared (st col : List ℕ) (ns : ℕ) (sq₀ sq : List ℕ) (k : ℕ) : Type 0 where
  pub own : (i c : ℕ) → i < k → c < ns → subject_node st i ≡ get_or col c 0 → at sq i c ≡ 0
  pub other : (i c : ℕ) → c < 512 → ¬ (subject_node st i ≡ get_or col c 0) → at sq i c ≡ at sq₀ i c
  pub rest : (i c : ℕ) → c < 512 → k ≤ i → at sq i c ≡ at sq₀ i c
