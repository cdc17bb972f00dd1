-- The first statement has none before it; else the two subjects are compared. Assumes nothing.
use mathlib.Core.Path.{sym}
use native.Mathlib.Omega.{arith}
use Rattle.spec.proofs.Lists.{true-not_false}
use Rattle.query_alternatives.proofs.GatherLaws.{repeated}
use Rattle.query_alternatives.proofs.sources.is_repeated.Goals as goal

pub returns-then-i-eq0 : goal.returns-then-i-eq0
returns-then-i-eq0 c = λ h. absurd (true-not_false (sym h))

pub returns : goal.returns
returns c = λ h.
    (omega (arith, c.if-i-eq0.false), repeated c.args.statements.now c.args.i _ _ c.row_at-before.ensures c.row_at-row.ensures h)
