-- What is answered and left in the lent tables. Definitions only.
use Rattle.std.specs.Prelude.{Bool, cond, List, ◌++◌, ℕ, ◌-◌, length, take, replicate, leb}
use Rattle.spec.specs.Tables.{layout}
use Rattle.spec.specs.Lists.{padded}
use Rattle.spec.specs.Saturation.{Kept, kept_rows, kept_supports}
use Rattle.spec.specs.inside.Counts.{Counts}
use Rattle.saturate_counts.specs.inside.Supported.{Supported}

-- Whether the rows fit, and the words of the kept table and the supports.
pub record Result : Type 0 where
  pub fits : Bool
  pub kept : List ℕ
  pub supports : List ℕ

-- The result of its parts.
abbrev pub result_of : Bool → List ℕ → List ℕ → Result
result_of b ws us = record { fits = b; kept = ws; supports = us }

-- The kept facts K in tables with these words: all of them if they fit room, else the words as they were.
unfoldable pub written : Kept → ℕ → List ℕ → List ℕ → Result
written K room ws us =
    result_of (leb (length K) room) (cond (leb (length K) room) (layout (length ws) (kept_rows K)) ws) (cond (leb (length K) room) (padded (length us) (kept_supports K)) us)

-- A list of kept facts that has the supports.
pub record Exists (st : List ℕ) (m : ℕ) (d r keys : List ℕ) (nc ns : ℕ) (f : List ℕ) (n : ℕ) : Type 0 where
  pub list : Kept
  pub counts : Counts list
  pub supported : Supported list st m d r keys nc ns f n

-- Words from index a on set to 0.
unfoldable pub zero_from : ℕ → List ℕ → List ℕ
zero_from a ws = take a ws ++ replicate (length ws - a) 0
