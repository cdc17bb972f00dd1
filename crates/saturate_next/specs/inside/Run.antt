-- The run over the subjects, ascending. f are the words of the n facts, ix their places in the order of their objects. Definitions only.
use Rattle.std.specs.Prelude.{◌≡◌, cond, List, ℕ, ◌^◌, ◌≤◌, ◌<◌, ltb}
use Rattle.saturate_merge.specs.inside.Streams.{lesser_of}
use Rattle.saturate_schema.specs.inside.Compiled.{subject_at}
use Rattle.saturate_index.specs.inside.Index.{object_of}

-- The places i .. e are those from i on, below n, where key is x, up to the first where it is not.
pub record EndOf (key : ℕ → ℕ) (n x i e : ℕ) : Type 0 where
  pub low : i ≤ e
  pub high : e ≤ n
  pub all : (y : ℕ) → i ≤ y → y < e → key y ≡ x
  pub next : e < n → ¬ (key e ≡ x)

-- The subject of fact i, 2 ^ 32 where there is none.
unfoldable pub subject_from : List ℕ → ℕ → ℕ → ℕ
subject_from f n i = cond (ltb i n) (subject_at f i) (2 ^ 32)

-- The object at place j of the index, 2 ^ 32 where there is none or it is a literal.
unfoldable pub thing_from : List ℕ → List ℕ → ℕ → ℕ → ℕ
thing_from f ix n j = cond (ltb j n) (cond (ltb (object_of f ix j) (2 ^ 31)) (object_of f ix j) (2 ^ 32)) (2 ^ 32)

-- The next subject of a row: the lesser of the two.
abbrev pub next_subject : List ℕ → List ℕ → ℕ → ℕ → ℕ → ℕ
next_subject f ix n i j = lesser_of (subject_from f n i) (thing_from f ix n j)
