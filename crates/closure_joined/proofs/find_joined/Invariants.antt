-- The terms of the columns gone through whose bits are 1 are found.
use mathlib.Core.Path.{◌≡◌}
use Prim.Native.Nat.{◌-◌, ◌≤◌}
use lib.ListN.{length}
use Rattle.closure_words.specs.inside.Layout.{first_column, end_column}
use Rattle.closure_joined.proofs.JoinedLaws.{Gathering}
use Rattle.closure_joined.proofs.find_joined.Given as goal

abbrev pub invariant-loop-c : goal.invariant-loop-c
invariant-loop-c l = (length l.found ≡ length l.initial.found) × (l.c ≤ 512) × (end_column l.closure l.property ≤ 512) × Gathering l.closure l.i (first_column l.closure l.property) (end_column l.closure l.property) l.c l.found l.n

abbrev pub decreases-loop-c : goal.decreases-loop-c
decreases-loop-c l = 512 - l.c
