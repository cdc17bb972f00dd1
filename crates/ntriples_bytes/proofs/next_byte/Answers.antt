use native.Mathlib.Omega.{arith}
use mathlib.Core.Path.{◌∙◌}
use Rattle.ntriples_bytes.proofs.Scanning.{next-first, too_small, too_great, in_range}
use Rattle.ntriples_bytes.proofs.next_byte.Goals as goal
use Rattle.ntriples_bytes.proofs.next_byte.Goals.{then-b-due-via-then-b-due, then-b-due-via-else-b-due+then-due-b}

pub returns-then-due-eq0 : goal.returns-then-due-eq0
returns-then-due-eq0 c = λ bs. next-first c.args.due.left c.args.due.low c.args.due.high c.args.b (omega arith) bs ∙ c.first_byte.ensures bs

pub returns-then-b-due : goal.returns-then-b-due
returns-then-b-due c =
    elim c.then-b-due.branch [
      | then-b-due-via-then-b-due w ↦ too_small c.args.due.left c.args.due.low c.args.due.high c.args.b (λ x. omega (arith, x)) (omega arith)
      | then-b-due-via-else-b-due+then-due-b w ↦ too_great c.args.due.left c.args.due.low c.args.due.high c.args.b (λ x. omega (arith, x)) (omega arith) (omega arith)
    ]

pub returns : goal.returns
returns c = in_range c.args.due.left c.args.due.low c.args.due.high c.args.b (λ x. omega (arith, x)) (omega arith) (omega arith)
