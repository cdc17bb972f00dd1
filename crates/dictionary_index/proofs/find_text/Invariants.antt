use Prim.Native.Nat.{◌≤◌}
use lib.ListN.{take, drop}
use Rattle.dictionary_index.specs.inside.Index.{Passed}
use Rattle.dictionary_index.proofs.find_text.Given as goal

abbrev pub invariant-loop-s : goal.invariant-loop-s
invariant-loop-s l = (l.home ≤ l.s) × Passed l.slots l.dictionary l.first (take l.n (drop l.from l.bytes)) l.home l.s
