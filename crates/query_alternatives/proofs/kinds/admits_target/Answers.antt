-- One case for kind 4, and one for the others. Assumes nothing.
use mathlib.Core.Path.{◌∙◌}
use Rattle.query_alternatives.proofs.SourceLaws.{target_property, target_class}
use Rattle.query_alternatives.proofs.kinds.admits_target.Goals as goal

pub returns-then-alternative-eq-BY_SUBPROPERTY : goal.returns-then-alternative-eq-BY_SUBPROPERTY
returns-then-alternative-eq-BY_SUBPROPERTY c = c.admits.ensures ∙ target_property c.args.atom c.args.alternative c.if-alternative-eq-BY_SUBPROPERTY.true

pub returns : goal.returns
returns c = let h = target_class c.args.atom c.args.alternative c.if-alternative-eq-BY_SUBPROPERTY.false in
    cc
