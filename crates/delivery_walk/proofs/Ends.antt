-- The test of a whole delivery. Assumes nothing.
use Prim.Native.Nat.{ℕ, ◌+◌, ◌≤◌, ◌<◌}
use mathlib.Core.Path.{◌≡◌}
use mathlib.Core.Bool.{false}
use mathlib.Core.List.{List}
use lib.ListN.{length}
use lib.Dec.{eqb}
use borrow.Author.Tests.{lt-leb, le-leb}
use Rattle.spec.specs.computed.Decoded.{short, section_start, fields_end, is_whole}
use Rattle.spec.specs.Messages.{most_bytes}
use Rattle.delivery_walk.specs.inside.Walked.{counted_end}

-- Too many bytes.
pub too_long_lem : (bs : List ℕ) → most_bytes < length bs → is_whole bs ≡ false
unfolding is_whole
too_long_lem bs h = rw (lt-leb _ _ h)

-- Counted fields end where the fields after the count do.
pub counted_end_lem : (bs : List ℕ) (at n e : ℕ) → n ≡ short bs at → e ≡ fields_end bs (at + 2) n → e ≡ counted_end bs at
unfolding counted_end
counted_end_lem bs at n e h q = rw (q, h)

-- Not too many: the end of the fields that the fifth section counts decides.
pub ends_there : (bs : List ℕ) (at e : ℕ) → length bs ≤ most_bytes → at ≡ section_start bs 4 → e ≡ counted_end bs at → eqb e (length bs) ≡ is_whole bs
unfolding is_whole counted_end
ends_there bs at e h x q = rw (le-leb _ _ h, q, x)
