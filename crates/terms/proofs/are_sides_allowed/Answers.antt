-- The result is the definition's, by what the calls ensure. Assumes nothing.
use Rattle.terms.proofs.Sides.{of_classes, of_properties, of_both}
use Rattle.terms.proofs.are_sides_allowed.Goals as goal

pub returns-then-t-eq-SUB_CLASS_OF : goal.returns-then-t-eq-SUB_CLASS_OF
returns-then-t-eq-SUB_CLASS_OF c = of_classes _ _ _ c.if-t-eq-SUB_CLASS_OF.true c.is_class.ensures c.is_class-then-t-eq-SUB_CLASS_OF.ensures

pub returns-then-t-eq-SUB_PROPERTY_OF : goal.returns-then-t-eq-SUB_PROPERTY_OF
returns-then-t-eq-SUB_PROPERTY_OF c = of_properties _ _ _ c.if-t-eq-SUB_PROPERTY_OF.true c.is_property.ensures c.is_property-then-t-eq-SUB_PROPERTY_OF.ensures

pub returns : goal.returns
returns c = of_both _ _ _ c.if-t-eq-SUB_CLASS_OF.false c.if-t-eq-SUB_PROPERTY_OF.false c.is_property-2.ensures c.is_class-2.ensures
