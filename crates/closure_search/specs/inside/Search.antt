-- The column of a term. Definitions only.
use Rattle.std.specs.Prelude.{◌≡◌, List, ℕ, Option, Some, None}
use Rattle.closure_words.specs.inside.Layout.{term_at, IsColumn}

-- The column of the property k that has the term x; none where no column has it.
abbrev pub ColumnFor : List ℕ → ℕ → ℕ → Option ℕ → Type 0
ColumnFor ws k x (Some c) = IsColumn ws k c × (term_at ws c ≡ x)
ColumnFor ws k x None = (c : ℕ) → IsColumn ws k c → ¬ (term_at ws c ≡ x)
