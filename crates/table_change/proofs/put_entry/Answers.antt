-- The words and the support are written as `put_row` and `set` write them.
use mathlib.Core.Path.{refl}
use native.Mathlib.Omega.{arith}
use lib.ListN.{length-set}
use Rattle.table_change.specs.inside.Words.{put_row}
use Rattle.table_change.proofs.put_entry.Goals as goal

pub bounds-kept-at-2 : goal.bounds-kept-at-2
bounds-kept-at-2 c = simp length-set (omega arith)

pub bounds-kept-at-3 : goal.bounds-kept-at-3
bounds-kept-at-3 c = simp length-set (omega arith)

pub returns : goal.returns
unfolding put_row
returns c = record { row = refl; support = refl }
