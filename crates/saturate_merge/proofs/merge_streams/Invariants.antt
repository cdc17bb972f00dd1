-- Rows below the least object are put, and the streams have the others. The streams shrink with each turn.
use Rattle.saturate_merge.specs.inside.Output.{output}
use Rattle.saturate_merge.specs.inside.Streams.{streams}
use Rattle.saturate_merge.proofs.Streams.{remaining}
use Rattle.saturate_merge.proofs.Merging.{Turn}
use Rattle.saturate_merge.proofs.merge_streams.Given as goal

abbrev pub invariant-loop-o : goal.invariant-loop-o
invariant-loop-o l = Turn l.f l.initial.ends l.ends l.k l.x l.q l.room (output l.initial.kept l.initial.supports l.n0) (output l.kept l.supports l.n)

abbrev pub decreases-loop-o : goal.decreases-loop-o
decreases-loop-o l = remaining (streams l.f l.ends l.k)
