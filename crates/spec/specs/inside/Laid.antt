-- What a table's words are, as functions on tables ask for it and as the laws give it. Definitions only.
use Rattle.std.specs.Prelude.{ℕ, ◌+◌, ◌*◌, ◌^◌, ◌≤◌, ◌<◌, ◌≡◌, Bool, true, List, length, take}
use Rattle.spec.specs.declared.Triple.{Triple}
use Rattle.spec.specs.Terms.{is_allowed_statement, is_allowed_fact}
use Rattle.spec.specs.inside.Comparison.{Ascending}
use Rattle.spec.specs.Tables.{most_statements, most_facts, most_kept, capacity, count, rows, layout, is_support}
use Rattle.spec.specs.Lists.{all, padded}

-- Words that are the layout of their rows. The count and the room follow from the first.
pub record Laid (ws : List ℕ) : Type 0 where
  pub is_layout : ws ≡ layout (length ws) (rows ws)
  pub counted : count ws ≡ length (rows ws)
  pub fits : length (rows ws) * 3 < length ws

-- Such words, with room for one row more and for its count.
pub record Spare (ws : List ℕ) : Type 0 where
  pub laid : Laid ws
  pub room : length (rows ws) * 3 + 3 < length ws
  pub countable : length (rows ws) + 1 < 2 ^ 32

-- What the words of a well-formed table are.
pub record WellFormed (allowed : Triple → Bool) (most : ℕ) (ws : List ℕ) : Type 0 where
  pub laid : Laid ws
  pub ascends : Ascending (rows ws)
  pub each_allowed : all allowed (rows ws) ≡ true
  pub within : length (rows ws) ≤ capacity most ws

-- What the places of well-formed supports are.
pub record Supports (facts n : ℕ) (us : List ℕ) : Type 0 where
  pub within : n ≤ length us
  pub each_support : all (is_support facts) (take n us) ≡ true
  pub is_layout : us ≡ padded (length us) (take n us)

-- What the four tables of a well-formed store are.
pub record FormedStore (S F K U : List ℕ) : Type 0 where
  pub statements : WellFormed is_allowed_statement most_statements S
  pub facts : WellFormed is_allowed_fact most_facts F
  pub kept : WellFormed is_allowed_fact most_kept K
  pub supports : Supports (count F) (count K) U
