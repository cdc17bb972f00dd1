-- The rows of the closed pairs. st are the words of the m statements, col the ns columns, ws the words of a closure. Definitions only.
use Rattle.std.specs.Prelude.{List, ℕ}
use Rattle.saturate_schema.specs.inside.Nodes.{edges}
use Rattle.saturate_schema.specs.inside.Squares.{Closed}
use Rattle.closure_words.specs.inside.Layout.{bit_at}

-- The bits say what the m statements lead to by subclasses and subproperties alone: no statement has the property 0.
abbrev pub Filled : List ℕ → ℕ → List ℕ → ℕ → List ℕ → Type 0
Filled st m col ns ws = Closed st m col ns (bit_at ws) (edges st 0 m)
