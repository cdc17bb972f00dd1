-- One case for each part.
use mathlib.Core.Path.{sym}
use Rattle.rdfs_carry.proofs.WrittenLaws.{at_property, at_subject, at_object}
use Rattle.rdfs_carry.proofs.conclusion.Goals as goal

pub returns-then-i-ends : goal.returns-then-i-ends
returns-then-i-ends c = sym (at_property c.args.fact _ _ _ _ c.if-i-ends.true)

pub returns-then-i-ends-2 : goal.returns-then-i-ends-2
returns-then-i-ends-2 c = sym (at_subject c.args.fact _ _ _ _ c.if-i-ends.false c.if-i-ends-2.true)

pub returns : goal.returns
returns c = sym (at_object c.args.fact _ _ _ _ c.if-i-ends.false c.if-i-ends-2.false)
