use Rattle.dictionary_ranks.proofs.Slots.{first_uri, first_other}
use Rattle.dictionary_ranks.proofs.first_number.Goals as goal

-- src/lib.rt:44:9
pub returns-then-kind-eq0 : goal.returns-then-kind-eq0
returns-then-kind-eq0 c = first_uri c.args.kind c.if-kind-eq0.true

-- src/lib.rt:40:1
pub returns : goal.returns
returns c = first_other c.args.kind c.if-kind-eq0.false
