use native.Mathlib.Omega.{arith}
use Rattle.spec_ntriples.specs.Texts.{lower_char}
use Rattle.ntriples_bytes.proofs.Marking.{between}
use Rattle.ntriples_cursor.proofs.steps.lower.Goals as goal

pub overflow_add-result : goal.overflow_add-result
overflow_add-result c = omega (arith, between 65 c.args.c 90 c.if-c.true)

pub returns-then-c : goal.returns-then-c
unfolding lower_char
returns-then-c c = rw c.if-c.true

pub returns : goal.returns
unfolding lower_char
returns c = rw c.if-c.false
