-- Walks of one or more edges between nodes. Definitions only.
use mathlib.Core.List.{List, Memᴰ}
use Rattle.std.specs.Prelude.{ℕ}

-- An edge: where it starts, and where it ends.
abbrev pub Edge : Type 0
Edge = ℕ × ℕ

-- A walk from a by one or more of the edges: the transitive closure.
pub data Plus (E : List Edge) (a : ℕ) : ℕ → Type 0 where
  edge : {b : ℕ} → Memᴰ (a, b) E → Plus E a b
  more : {b c : ℕ} → Plus E a b → Memᴰ (b, c) E → Plus E a c
