-- The highest of some supports. Definitions only.
use Rattle.std.specs.Prelude.{ℕ, max, List, [], ◌∷◌}

-- The highest of some numbers, 0 of none.
unfoldable pub highest : List ℕ → ℕ
highest [] = 0
highest (u ∷ us) = max u (highest us)
