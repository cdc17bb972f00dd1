-- The rows of the properties below a bound are put; columns passed that are not below it were not counted.
use Rattle.saturate_merge.specs.inside.Output.{output}
use Rattle.saturate_subject.proofs.Properties.{Passed}
use Rattle.saturate_subject.proofs.property_rows.Given as goal

abbrev pub invariant-loop-c : goal.invariant-loop-c
invariant-loop-c l = Passed l.statements l.sizes.statements l.domains l.keys l.sizes.classes l.sizes.columns l.counts l.f l.x l.t l.e l.room (output l.initial.kept l.initial.supports l.initial.n) (output l.kept l.supports l.n) l.q l.c
