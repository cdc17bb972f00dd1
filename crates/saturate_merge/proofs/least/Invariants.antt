-- The best so far is the least of the first y streams.
use mathlib.Core.Path.{◌≡◌}
use Rattle.saturate_merge.specs.inside.Streams.{streams, least_of}
use Rattle.saturate_merge.proofs.least.Given as goal

abbrev pub invariant-loop-y : goal.invariant-loop-y
invariant-loop-y l = l.best ≡ least_of (streams l.f l.ends l.y)
