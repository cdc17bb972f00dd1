use Rattle.dictionary_numbers.proofs.Numbering.{number_uri, number_blank, number-literal}
use Rattle.dictionary_numbers.proofs.number_of.Goals as goal

-- src/lib.rt:34:9
pub returns-then-kind-eq0 : goal.returns-then-kind-eq0
returns-then-kind-eq0 c = number_uri c.args.f c.args.kind c.if-kind-eq0.true

-- src/lib.rt:37:9
pub returns-then-kind-eq1 : goal.returns-then-kind-eq1
returns-then-kind-eq1 c = number_blank c.args.f c.args.kind c.if-kind-eq1.true

-- src/lib.rt:30:1
pub returns : goal.returns
returns c = number-literal c.args.f c.args.kind c.if-kind-eq0.false c.if-kind-eq1.false
