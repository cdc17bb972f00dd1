-- No more were applied than were added.
use Rattle.std.proofs.Common.{◌≤◌}
use Rattle.cases_updates.proofs.add_chain.Given as goal

abbrev pub invariant-loop-i : goal.invariant-loop-i
invariant-loop-i l = l.applied ≤ l.i
