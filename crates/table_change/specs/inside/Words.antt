-- What the functions on words leave, and rows with one more or one less. Definitions only.
use Rattle.std.specs.Prelude.{ℕ, ◌+◌, ◌*◌, ◌≡◌, List, ◌∷◌, ◌++◌, take, drop, set}
use Rattle.std.proofs.Math.Seq.{slice}
use Rattle.spec.specs.declared.Triple.{Triple}

-- Words with the row x at place i.
unfoldable pub put_row : ℕ → Triple → List ℕ → List ℕ
put_row i x ws = set (set (set ws (i * 3 + 1) x.subject) (i * 3 + 1 + 1) x.property) (i * 3 + 1 + 2) x.object

-- The tables ws and us, with the row x and its support s at place i.
pub record Entered (i : ℕ) (x : Triple) (s : ℕ) (ws us ws' us' : List ℕ) : Type 0 where
  pub row : ws' ≡ put_row i x ws
  pub support : us' ≡ set us i s

-- Words with those from index a to index e moved three up.
unfoldable pub moved_up : ℕ → ℕ → List ℕ → List ℕ
moved_up a e ws = take (a + 3) ws ++ (slice a e ws ++ drop (e + 3) ws)

-- Words with those from index a + 3 to index e + 3 moved three down.
unfoldable pub moved_down : ℕ → ℕ → List ℕ → List ℕ
moved_down a e ws = take a ws ++ (slice (a + 3) (e + 3) ws ++ drop e ws)

-- Rows with t before row i.
unfoldable pub insert_at : ℕ → Triple → List Triple → List Triple
insert_at i t us = take i us ++ (t ∷ drop i us)

-- Rows without row i.
unfoldable pub remove_at : ℕ → List Triple → List Triple
remove_at i us = take i us ++ drop (i + 1) us
