use native.Mathlib.Omega.{arith}
use Rattle.ntriples_breaks.proofs.Breaking.{line-all, line-stop, line-goes}
use Rattle.ntriples_breaks.proofs.line_end.Goals as goal

pub returns-then-b : goal.returns-then-b
returns-then-b c = omega (arith, line-stop c.args.file.now c.loop-at.at (omega arith) c.if-b.true)

pub loop-at-preserved : goal.loop-at-preserved
loop-at-preserved c = omega (arith, line-goes c.args.file.now c.loop-at.at (omega arith) c.if-b.false)

pub returns : goal.returns
returns c = omega (arith, line-all c.args.file.now c.loop-at.at (omega arith))
