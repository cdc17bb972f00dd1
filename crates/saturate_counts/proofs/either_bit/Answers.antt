-- By the cases of the tests.
use borrow.Author.Tests.{eq-eqb, ne_eqb}
use Rattle.saturate_counts.proofs.either_bit.Goals as goal

pub returns-then-a-eq1 : goal.returns-then-a-eq1
returns-then-a-eq1 c = rw (c.if-class.true, eq-eqb c.args.a 1 c.if-a-eq1.true)

pub returns-else-a-eq1 : goal.returns-else-a-eq1
returns-else-a-eq1 c = rw (c.if-class.true, ne_eqb c.args.a 1 c.if-a-eq1.false)
