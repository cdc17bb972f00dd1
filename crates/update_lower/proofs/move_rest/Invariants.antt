-- The invariant: what stands before the gap and behind it stays the same.
use mathlib.Core.List.{◌++◌}
use lib.ListN.{take, drop}
use Rattle.update_kept.specs.inside.Entries.{entries}
use Rattle.update_lower.specs.inside.Lowering.{Gapped}
use Rattle.update_lower.proofs.move_rest.Given as goal

abbrev pub invariant-loop-i : goal.invariant-loop-i
invariant-loop-i l = Gapped (take l.to (entries l.n l.initial.kept l.initial.supports) ++ drop l.from (entries l.n l.initial.kept l.initial.supports)) l.n l.i l.k l.initial.kept l.initial.supports l.kept l.supports
