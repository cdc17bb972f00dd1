-- Laws of the first of some characters. Assumes nothing.
use Prim.Native.Nat.{ℕ, ◌≤◌}
use mathlib.Core.Path.{◌≡◌}
use mathlib.Core.Bool.{Bool, true, false}
use mathlib.Core.List.{List}
use lib.ListN.{length}
use Rattle.spec_ntriples.specs.computed.Terminals.{head_is}
use Rattle.ntriples_bytes.specs.declared.Mark.{Mark}
use Rattle.ntriples_bytes.specs.inside.Places.{chars_at, Marks}
use Rattle.ntriples_bytes.proofs.Decoding.{chars_end, chars_marked, from_marked}
use Rattle.ntriples_terminals.specs.inside.Ends.{nowhere, behind_head, Ended}

module _ (test : ℕ → Bool) (bs : List ℕ) (at : ℕ) where
  pub head_none : length bs ≤ at → head_is test (chars_at bs at) ≡ false
  unfolding head_is
  head_none h = rw (chars_end bs at h)

  pub head-some : (m : Mark) → Marks bs at m → head_is test (chars_at bs at) ≡ test m.code
  unfolding head_is
  head-some m M = rw (chars_marked M)

  pub behind_none : length bs ≤ at → behind_head test (chars_at bs at) ≡ nowhere
  unfolding behind_head
  behind_none h = rw (chars_end bs at h)

  module _ (m : Mark) (M : Marks bs at m) where
    pub behind-some : test m.code ≡ true → Ended bs (behind_head test (chars_at bs at)) m.next
    unfolding behind_head
    behind-some q = record { same = rw (chars_marked M, q); from = from_marked M }

    pub behind-other : test m.code ≡ false → behind_head test (chars_at bs at) ≡ nowhere
    unfolding behind_head
    behind-other q = rw (chars_marked M, q)
