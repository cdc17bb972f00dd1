-- Rows in words. Definitions only.
use Rattle.std.specs.Prelude.{ℕ, zero, suc, ◌+◌, ◌*◌, List, [], ◌∷◌, get_or}

-- The m words of t from word p on.
unfoldable pub row : ℕ → ℕ → List ℕ → List ℕ
row zero p t = []
row (suc m) p t = get_or t p 0 ∷ row m (p + 1) t

-- Row i of t, where each row has m words.
abbrev pub row_at : ℕ → List ℕ → ℕ → List ℕ
row_at m t i = row m (i * m) t

-- The n rows f s, f (s + 1), and so on.
unfoldable pub tabulate : (ℕ → List ℕ) → ℕ → ℕ → List (List ℕ)
tabulate f s zero = []
tabulate f s (suc n) = f s ∷ tabulate f (s + 1) n

-- The n rows of t from row s on, where each row has m words.
abbrev pub rows : ℕ → List ℕ → ℕ → ℕ → List (List ℕ)
rows m t s n = tabulate (row_at m t) s n
