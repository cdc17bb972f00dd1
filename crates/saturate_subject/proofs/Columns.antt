-- Laws of a block, and of those that lead to a column. Assumes nothing.
use mathlib.Core.Path.{◌≡◌, ap}
use mathlib.Core.List.{List, [], ◌∷◌}
use Prim.Native.Nat.{ℕ, ◌+◌, ◌-◌, ◌*◌, ◌≤◌, ◌<◌}
use native.Mathlib.Omega.{arith}
use lib.ListN.{length, get_or, set, length-set}
use lib.Seq.{get_or-set_same}
use Rattle.spec.specs.Saturation.{Kept}
use Rattle.saturate_merge.specs.inside.Streams.{objects, streams, tally, AllRising, Tallied}
use Rattle.saturate_schema.specs.inside.Compiled.{property_at}
use Rattle.saturate_blocks.specs.inside.Blocks.{OneSubject, Gathered}
use Rattle.saturate_blocks.proofs.Gathering.{streams-push, rows_rising}
use Rattle.saturate_subject.specs.inside.Rows.{ColumnRows}

module _ (f ends : List ℕ) (z b : ℕ) (long : 1 < length ends) where
  -- The block alone is one stream,
  one_stream : streams f (set (set ends 0 z) 1 b) 1 ≡ objects f z (b - z) ∷ []
  unfolding streams
  one_stream = streams-push f ends 0 z b long

  -- which rises
  pub one_rising : (t e w : ℕ) → OneSubject f t e → t ≤ z → b ≤ e → ((y : ℕ) → z ≤ y → y < b → property_at f y ≡ w) → AllRising (streams f (set (set ends 0 z) 1 b) 1)
  one_rising t e w g l u all = rw one_stream (rows_rising f t e z b w g l u all, tt)

  -- and ends in the table.
  pub one_fits : b * 3 < length f → (y : ℕ) → y < 1 → get_or (set (set ends 0 z) 1 b) (y * 2 + 1) 0 * 3 < length f
  one_fits h y l = let e : y ≡ 0 = omega arith in let k : 1 < length (set ends 0 z) = omega (arith, length-set ends 0 z) in rw (e, get_or-set_same (set ends 0 z) 1 b 0 k) h

  -- With the others it has the objects of the rows of the column.
  pub column-tallied : (K : Kept) (st : List ℕ) (m : ℕ) (d : List ℕ) (c x w t e k : ℕ) (ends' : List ℕ) → Gathered st m d c f (set (set ends 0 z) 1 b) ends' 1 k t e e → ColumnRows K st m d c f x w z b t e → Tallied K x w (streams f ends' k)
  unfolding tally
  column-tallied K st m d c x w t e k ends' g h o = omega (arith, h o, g.sums o, ap (tally o) one_stream)
