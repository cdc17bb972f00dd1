-- One case for a class, and one for another property. Assumes nothing.
use mathlib.Core.Path.{refl, sym}
use Rattle.query_alternatives.proofs.SourceLaws.{by_class, by_other}
use Rattle.query_alternatives.proofs.kinds.alternative_by.Goals as goal

pub returns-then-row-eq-TYPE : goal.returns-then-row-eq-TYPE
returns-then-row-eq-TYPE c = sym (by_class c.args.source c.args.row c.args.row.subject refl c.if-row-eq-TYPE.true)

pub returns : goal.returns
returns c = sym (by_other c.args.source c.args.row c.if-row-eq-TYPE.false)
