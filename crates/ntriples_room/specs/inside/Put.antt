-- Bytes that are put into an output where they fit. Definitions only.
use Rattle.std.specs.Prelude.{ℕ, ◌+◌, ◌≤◌, ◌<◌, ◌≡◌, List, length}
use Rattle.std.proofs.lemmas.List.Edits.{sets}

-- Bytes were put from an index on, which made one output of another, and r is the index behind them; or they do not fit, and r is 0.
pub record Put (before after : List ℕ) (at : ℕ) (bytes : List ℕ) (r : ℕ) : Type 0 where
  pub full : r ≡ 0 → length before < at + length bytes
  pub behind : 0 < r → r ≡ at + length bytes
  pub fits : 0 < r → r ≤ length before
  pub put : 0 < r → after ≡ sets before at bytes
