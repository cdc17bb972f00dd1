-- One row or none, as the alternative qualifies. Assumes nothing.
use Rattle.query_alternatives.proofs.PutLaws.{puts_none}
use Rattle.query_alternatives.proofs.SourceLaws.{given_unfit, given_fit}
use Rattle.query_alternatives.proofs.sources.put_given.Goals as goal

pub returns-then-not-qualifies : goal.returns-then-not-qualifies
returns-then-not-qualifies c = rw (given_unfit c.args.atom c.args.source c.args.row c.alternative_by-alternative.result c.qualifies.result c.alternative_by-alternative.ensures c.qualifies.ensures c.if-not-qualifies.true) (puts_none c.requires)

pub returns : goal.returns
returns c = rw (given_fit c.args.atom c.args.source c.args.row c.alternative_by-alternative.result c.qualifies.result c.alternative_by-alternative.ensures c.qualifies.ensures c.if-not-qualifies.false) c.put_alternative.ensures
