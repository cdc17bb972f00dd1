-- Terms appended to a work list. Definitions only.
use Rattle.std.specs.Prelude.{◌≡◌, ◌↔◌, ℕ, ◌≤◌, ◌<◌, get_or}
use mathlib.Core.List.{List, Memᴰ}
use Rattle.rdfs_reach.specs.inside.Marks.{Within}

-- The terms of found' from n on, below n', are those of xs, some perhaps more than once. The terms below n are as they were in found.
pub record Listed (xs found : List ℕ) (n : ℕ) (found' : List ℕ) (n' : ℕ) : Type 0 where
  pub grows : n ≤ n'
  pub kept : (i : ℕ) → i < n → get_or found' i 0 ≡ get_or found i 0
  pub exact : (x : ℕ) → Within found' n n' x ↔ Memᴰ x xs
