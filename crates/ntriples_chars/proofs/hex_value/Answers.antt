use native.Mathlib.Omega.{arith}
use Rattle.ntriples_bytes.proofs.Marking.{between}
use Rattle.spec_ntriples.specs.Characters.{hex_value}
use Rattle.ntriples_chars.proofs.hex_value.Goals as goal

-- src/chars.rt:120:16
pub overflow_sub-result : goal.overflow_sub-result
overflow_sub-result c = omega (arith, between 48 c.args.c 57 c.if-c.true)

-- src/chars.rt:120:9
pub returns-then-c : goal.returns-then-c
unfolding hex_value
returns-then-c c = record { value = rw c.if-c.true; upper_bound = omega (arith, between 48 c.args.c 57 c.if-c.true) }

-- src/chars.rt:123:16
pub overflow_sub-result-then-c-2 : goal.overflow_sub-result-then-c-2
overflow_sub-result-then-c-2 c = omega (arith, between 65 c.args.c 70 c.if-c-2.true)

-- src/chars.rt:123:9
pub returns-then-c-2 : goal.returns-then-c-2
unfolding hex_value
returns-then-c-2 c = record { value = rw (c.if-c.false, c.if-c-2.true) (omega (arith, between 65 c.args.c 70 c.if-c-2.true)); upper_bound = omega (arith, between 65 c.args.c 70 c.if-c-2.true) }

-- src/chars.rt:126:16
pub overflow_sub-result-then-c-3 : goal.overflow_sub-result-then-c-3
overflow_sub-result-then-c-3 c = omega (arith, between 97 c.args.c 102 c.if-c-3.true)

-- src/chars.rt:126:9
pub returns-then-c-3 : goal.returns-then-c-3
unfolding hex_value
returns-then-c-3 c = record { value = rw (c.if-c.false, c.if-c-2.false, c.if-c-3.true) (omega (arith, between 97 c.args.c 102 c.if-c-3.true)); upper_bound = omega (arith, between 97 c.args.c 102 c.if-c-3.true) }

-- src/chars.rt:115:1
pub returns : goal.returns
unfolding hex_value
returns c = record { value = rw (c.if-c.false, c.if-c-2.false, c.if-c-3.false); upper_bound = omega arith }
