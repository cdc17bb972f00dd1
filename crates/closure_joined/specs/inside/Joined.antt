-- All terms that the subject of a statement leads to. Definitions only.
use Rattle.std.specs.Prelude.{◌≡◌, List, ◌↔◌, ℕ, ◌≤◌, ◌<◌, get_or}
use Rattle.closure_words.specs.inside.Layout.{bit_at}
use Rattle.closure_words.specs.inside.Closure.{LeadsTo}

-- r is a column after c, or past the last, and no column between them has a bit of statement i.
pub record NextColumn (ws : List ℕ) (i c r : ℕ) : Type 0 where
  pub above : c < r
  pub within : r ≤ 512
  pub none : (d : ℕ) → c < d → d < r → ¬ (bit_at ws i d ≡ 1)

-- x is one of the first n words.
pub record Among (ws : List ℕ) (n x : ℕ) : Type 0 where
  pub place : ℕ
  pub below : place < n
  pub is : get_or ws place 0 ≡ x

-- The first n words ascend strictly.
abbrev pub Rising : List ℕ → ℕ → Type 0
Rising ws n = (a b : ℕ) → a < b → b < n → get_or ws a 0 < get_or ws b 0

-- The first n words of out are what the subject of statement i leads to, ascending.
pub record AllJoined (st : List ℕ) (i : ℕ) (out : List ℕ) (n : ℕ) : Type 0 where
  pub few : n ≤ 512
  pub rising : Rising out n
  pub exactly : (b : ℕ) → Among out n b ↔ LeadsTo st i b
