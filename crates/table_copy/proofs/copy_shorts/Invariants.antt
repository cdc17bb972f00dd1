-- The invariant: the first numbers, up to a place, are copied, and the other words are as they were.
use mathlib.Core.Path.{◌≡◌}
use mathlib.Core.List.{◌++◌}
use lib.ListN.{take, drop}
use Rattle.table_copy.proofs.copy_shorts.Given as goal

abbrev pub invariant-loop-place : goal.invariant-loop-place
invariant-loop-place l = l.new ≡ take l.place l.old ++ drop l.place l.initial.new
