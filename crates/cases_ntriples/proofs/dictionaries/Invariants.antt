-- Each turn begins behind the case before it.
use Rattle.std.proofs.Common.{length, ◌-◌}
use Rattle.cases_ntriples.proofs.dictionaries.Given as goal

abbrev pub decreases-loop-from : goal.decreases-loop-from
decreases-loop-from g l = length l.text - l.from
