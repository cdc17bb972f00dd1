-- Laws of the search of a table of words. Assumes nothing.
use Prim.Native.Nat.{ℕ, ◌+◌, ◌≤◌, ◌<◌}
use mathlib.Core.Path.{◌≡◌}
use mathlib.Core.List.{List}
use native.Mathlib.Decide.{ℕ_discrete}
use native.Mathlib.Omega.{arith}
use lib.ListN.{length, get_or}
use Rattle.dictionary_bytes.specs.inside.Entries.{text_at}
use Rattle.dictionary_index.specs.inside.Index.{Passed, entry_of}

module _ (slots bs : List ℕ) (first : ℕ) (text : List ℕ) (home : ℕ) where
  -- No slot is passed yet.
  pub passed_none : Passed slots bs first text home home
  passed_none j h k = absurd (omega arith)

  -- A slot more, which leads to another text.
  pub passed_more : (s : ℕ) → Passed slots bs first text home s → 0 < get_or slots s 0 → (text_at bs (entry_of first (get_or slots s 0)) ≡ text → ⊥) → Passed slots bs first text home (s + 1)
  passed_more s p h e j k l = elim (ℕ_discrete j s) [
    | yes q ↦ rw q (h, e)
    | no n ↦ p j k (omega (arith, n))
  ]

  -- All slots are passed.
  pub passed-all : (s : ℕ) → Passed slots bs first text home s → length slots ≤ s → Passed slots bs first text home (length slots)
  passed-all s p h j k l = p j k (omega arith)
