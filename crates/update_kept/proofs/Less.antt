-- Rows that are all less than one, and parts of ascending rows. Assumes nothing.
use Prim.Native.Nat.{ℕ, zero, suc}
use mathlib.Core.List.{List, [], ◌∷◌}
use lib.ListN.{drop}
use Rattle.spec.specs.declared.Triple.{Triple}
use Rattle.spec.specs.inside.Comparison.{Less, Ascending}
use Rattle.spec.proofs.Ascending.{above_asc}

-- Each of some rows is less than t.
abbrev pub AllLess : List Triple → Triple → Type 0
AllLess [] t = Unit {0}
AllLess (u ∷ us) t = Less u t × AllLess us t

-- A part of ascending rows ascends.
pub ascending-drop : (i : ℕ) (us : List Triple) → Ascending us → Ascending (drop i us)
ascending-drop zero us a = a
ascending-drop (suc i) [] a = tt
ascending-drop (suc i) (u ∷ us) a = ascending-drop i us (above_asc u us a)
