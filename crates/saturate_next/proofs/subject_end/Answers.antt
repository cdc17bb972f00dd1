use mathlib.Core.Path.{◌≡◌, sym, ◌∙◌}
use native.Mathlib.Omega.{arith}
use Rattle.saturate_schema.specs.inside.Compiled.{subject_at}
use Rattle.saturate_next.proofs.NextLaws.{all_more, end_here, end_last}
use Rattle.saturate_next.proofs.subject_end.Goals as goal

pub returns-then-subject_at-x : goal.returns-then-subject_at-x
returns-then-subject_at-x c = end_here (subject_at c.args.f.now) _ _ _ _ (omega arith) (omega arith) c.loop-e.invariant (λ q. c.if-subject_at-x.true (c.subject_at.ensures ∙ q))

pub loop-e-preserved : goal.loop-e-preserved
loop-e-preserved c = all_more (subject_at c.args.f.now) _ _ _ c.loop-e.invariant (sym c.subject_at.ensures ∙ c.if-subject_at-x.false)

pub returns : goal.returns
returns c = let q : c.loop-e.e ≡ c.args.n = omega arith in rw q at (end_last (subject_at c.args.f.now) _ _ _ _ (omega arith) q c.loop-e.invariant)
