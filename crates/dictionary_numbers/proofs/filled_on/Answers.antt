use native.Mathlib.Omega.{arith}
use Rattle.dictionary_numbers.proofs.Numbering.{number_uri, number_blank, number-literal, raised_uri, raised_blank, raised-literal}
use Rattle.dictionary_numbers.proofs.filled_on.Goals as goal

-- src/lib.rt:50:19
pub overflow_add-result : goal.overflow_add-result
overflow_add-result c = omega (arith, number_uri c.args.f c.args.kind c.if-kind-eq0.true, c.requires)

-- src/lib.rt:48:9
pub returns-then-kind-eq0 : goal.returns-then-kind-eq0
returns-then-kind-eq0 c = raised_uri c.args.f c.args.kind c.args.end c.if-kind-eq0.true

-- src/lib.rt:59:21
pub overflow_add-result-then-kind-eq1 : goal.overflow_add-result-then-kind-eq1
overflow_add-result-then-kind-eq1 c = omega (arith, number_blank c.args.f c.args.kind c.if-kind-eq1.true, c.requires)

-- src/lib.rt:56:9
pub returns-then-kind-eq1 : goal.returns-then-kind-eq1
returns-then-kind-eq1 c = raised_blank c.args.f c.args.kind c.args.end c.if-kind-eq1.true

-- src/lib.rt:67:19
pub overflow_add-result-2 : goal.overflow_add-result-2
overflow_add-result-2 c = omega (arith, number-literal c.args.f c.args.kind c.if-kind-eq0.false c.if-kind-eq1.false, c.requires)

-- src/lib.rt:43:1
pub returns : goal.returns
returns c = raised-literal c.args.f c.args.kind c.args.end c.if-kind-eq0.false c.if-kind-eq1.false
