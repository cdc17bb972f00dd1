-- Rows put one after the other into the kept table and the supports, as far as there is room. Definitions only.
use Rattle.std.specs.Prelude.{cond, List, [], ◌∷◌, ℕ, ◌+◌, ◌^◌, set, ltb}
use Rattle.spec.specs.declared.Triple.{Triple}
use Rattle.spec.specs.Saturation.{Kept}
use Rattle.table_change.specs.inside.Words.{put_row}

-- The words of the kept table, the supports, and how many rows were put.
pub record Output : Type 0 where
  pub words : List ℕ
  pub supports : List ℕ
  pub count : ℕ

-- The output of its parts.
abbrev pub output : List ℕ → List ℕ → ℕ → Output
output ws us n = record { words = ws; supports = us; count = n }

-- One more, up to 2 ^ 32.
unfoldable pub one_more : ℕ → ℕ
one_more n = cond (ltb n (2 ^ 32)) (n + 1) n

-- A row with its support is written where there is room, and counted in any case.
unfoldable pub put_one : ℕ → Triple × ℕ → Output → Output
put_one room e out =
    output
    (cond (ltb out.count room) (put_row out.count e.0 out.words) out.words)
    (cond (ltb out.count room) (set out.supports out.count e.1) out.supports)
    (one_more out.count)

-- Rows with their supports, one after the other.
unfoldable pub put_all : ℕ → Kept → Output → Output
put_all room [] out = out
put_all room (e ∷ k) out = put_all room k (put_one room e out)
