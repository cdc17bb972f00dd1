-- A work list of terms and marks on statements: what each function over them does. Definitions only.
use Rattle.std.specs.Prelude.{◌≡◌, true, cond, ℕ, zero, suc, ◌+◌, ◌*◌, ◌≤◌, ◌<◌, length, get_or, drop, eqb}
use mathlib.Core.List.{List, Memᴰ}
use Rattle.spec.specs.Terms.{triple}
use Rattle.spec.specs.Order.{is_ascending}
use Rattle.spec.specs.Tables.{row_at, first_rows}
use Rattle.spec.specs.Rules.{Reach}

-- The words st hold m statements, ascending, after their count.
pub record Statements (st : List ℕ) (m : ℕ) : Type 0 where
  pub size : m * 3 < length st
  pub few : m ≤ 512
  pub ascends : is_ascending (first_rows m (drop 1 st)) ≡ true

-- Row j of st has the subject x and the property k.
pub record HasSubject (st : List ℕ) (x k j : ℕ) : Type 0 where
  pub subject : (row_at st j).subject ≡ x
  pub property : (row_at st j).property ≡ k

-- j is where the rows of the subject x and the property k begin, if there are any: none is before j, and from j on no row is below them.
pub record Begins (st : List ℕ) (m x k j : ℕ) : Type 0 where
  pub high : j ≤ m
  pub before : (i : ℕ) → i < j → HasSubject st x k i → ⊥
  pub subjects : (i : ℕ) → j ≤ i → i < m → x ≤ (row_at st i).subject
  pub properties : (i : ℕ) → j ≤ i → i < m → (row_at st i).subject ≡ x → k ≤ (row_at st i).property

-- The term x stands in found at a place from a on and below b.
pub record Within (found : List ℕ) (a b x : ℕ) : Type 0 where
  pub at : ℕ
  pub low : a ≤ at
  pub high : at < b
  pub is : get_or found at 0 ≡ x

-- How many of the first m statements have no mark.
unfoldable pub unused : ℕ → List ℕ → ℕ
unused zero used = 0
unused (suc m) used = cond (eqb (get_or used m 0) 0) 1 0 + unused m used

-- Statements of one subject and property have the same mark.
abbrev pub Uniform : List ℕ → ℕ → List ℕ → Type 0
Uniform st m used = (i j : ℕ) → i < m → j < m → (row_at st i).subject ≡ (row_at st j).subject → (row_at st i).property ≡ (row_at st j).property → get_or used i 0 ≡ get_or used j 0

-- No statement of the property k has a mark.
abbrev pub Unused : List ℕ → ℕ → ℕ → List ℕ → Type 0
Unused st m k used = (j : ℕ) → j < m → (row_at st j).property ≡ k → get_or used j 0 ≡ 0

-- There is a mark for each statement, the marks are uniform, and found has a place for n terms and one more for each statement without a mark.
pub record Room (st : List ℕ) (m : ℕ) (used found : List ℕ) (n : ℕ) : Type 0 where
  pub marks : m ≤ length used
  pub places : n + unused m used ≤ length found
  pub uniform : Uniform st m used

-- o is the object of a statement of the property k whose subject is one of which Q holds.
pub record ObjectOf (st : List ℕ) (m k : ℕ) (Q : ℕ → Type 0) (o : ℕ) : Type 0 where
  pub subject : ℕ
  pub holds : Q subject
  pub statement : Memᴰ (triple subject k o) (first_rows m (drop 1 st))

-- b is reached by steps of the property k from a term of which Q holds.
pub record ReachedFrom (st : List ℕ) (m k : ℕ) (Q : ℕ → Type 0) (b : ℕ) : Type 0 where
  pub start : ℕ
  pub holds : Q start
  pub path : Reach (first_rows m (drop 1 st)) k start b

-- Terms were appended to found from n on, below n', for marks on statements of the property k: each cost a mark. The terms below n
-- and the marks of other properties are as they were.
pub record Grown (st : List ℕ) (m k : ℕ) (used found : List ℕ) (n : ℕ) (used' found' : List ℕ) (n' : ℕ) : Type 0 where
  pub grows : n ≤ n'
  pub cost : n' + unused m used' ≡ n + unused m used
  pub kept : (i : ℕ) → i < n → get_or found' i 0 ≡ get_or found i 0
  pub other : (j : ℕ) → j < m → ¬ ((row_at st j).property ≡ k) → get_or used' j 0 ≡ get_or used j 0
  pub uniform : Uniform st m used'

-- The terms appended are objects of the statements of the property k whose subject is one of which Q holds. Each such statement has
-- a mark, and where it got it now its object was appended.
pub record Extended (st : List ℕ) (m k : ℕ) (Q : ℕ → Type 0) (used found : List ℕ) (n : ℕ) (used' found' : List ℕ) (n' : ℕ) : Type 0 where
  pub grown : Grown st m k used found n used' found' n'
  pub marked : (j : ℕ) → j < m → ¬ (get_or used j 0 ≡ 0) → ¬ (get_or used' j 0 ≡ 0)
  pub gained : (j : ℕ) → j < m → get_or used j 0 ≡ 0 → ¬ (get_or used' j 0 ≡ 0) → Within found' n n' (row_at st j).object
  pub origin : (i : ℕ) → n ≤ i → i < n' → ObjectOf st m k Q (get_or found' i 0)
  pub done : (j : ℕ) → j < m → (row_at st j).property ≡ k → Q (row_at st j).subject → ¬ (get_or used' j 0 ≡ 0)
