-- Words that hold the closed pairs of a table of statements. Definitions only.
use Rattle.std.specs.Prelude.{◌≡◌, List, ◌↔◌, ℕ, ◌<◌}
use Rattle.spec.specs.Tables.{count, row_at, rows}
use Rattle.spec.specs.inside.Stated.{Steps}
use Rattle.spec.specs.inside.Given.{IsTransitive}
use Rattle.closure_words.specs.inside.Layout.{columns_of, term_at, bit_at, IsColumn, Shaped}

-- The subject of statement i leads to b by one or more steps of its property.
abbrev pub LeadsTo : List ℕ → ℕ → ℕ → Type 0
LeadsTo st i b = Steps (rows st) (row_at st i).property (row_at st i).subject b

-- Statement i is there, and is a subclass or subproperty statement with the property k.
pub record IsStated (st : List ℕ) (i k : ℕ) : Type 0 where
  pub below : i < count st
  pub property : (row_at st i).property ≡ k
  pub transitive : IsTransitive (row_at st i)

-- A column of the property k has the term b.
pub record HasColumn (ws : List ℕ) (k b : ℕ) : Type 0 where
  pub column : ℕ
  pub of_property : IsColumn ws k column
  pub term : term_at ws column ≡ b

-- The words ws hold the closed pairs of the statements st: a bit is 1 exactly where its column is one of the statement's property and the
-- subject leads to its term, and what the subject leads to has a column.
pub record IsClosure (st ws : List ℕ) : Type 0 where
  pub shape : Shaped ws
  pub bits : (i k c : ℕ) → IsStated st i k → c < columns_of ws → (bit_at ws i c ≡ 1) ↔ (IsColumn ws k c × LeadsTo st i (term_at ws c))
  pub all : (i k b : ℕ) → IsStated st i k → LeadsTo st i b → HasColumn ws k b
