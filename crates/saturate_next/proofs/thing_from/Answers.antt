-- By whether there is a place j, and whether its object is a literal.
use mathlib.Core.Path.{sym, ◌∙◌}
use native.Mathlib.Omega.{arith}
use Rattle.saturate_next.proofs.NextLaws.{thing-some, thing-literal, thing_none}
use Rattle.saturate_next.proofs.thing_from.Goals as goal

pub object_of-requires : goal.object_of-requires
object_of-requires c = record { a_in_bounds = omega (arith, c.requires.long); a_in_bounds_2 = omega (arith, c.requires.fit, c.requires.below c.args.j c.if-j-n.true) }

pub returns-then-o-lt-LITERALS : goal.returns-then-o-lt-LITERALS
returns-then-o-lt-LITERALS c = c.wide-o.ensures.0 ∙ c.object_of.ensures ∙ sym (thing-some c.args.f.now c.args.ix.now _ _ c.if-j-n.true (omega (arith, c.if-o-lt-LITERALS.true, c.wide-o.ensures.0 ∙ c.object_of.ensures)))

pub returns-else-o-lt-LITERALS : goal.returns-else-o-lt-LITERALS
returns-else-o-lt-LITERALS c = sym (thing-literal c.args.f.now c.args.ix.now _ _ c.if-j-n.true (omega (arith, c.if-o-lt-LITERALS.false, c.wide-o.ensures.0 ∙ c.object_of.ensures)))

pub returns-else-j-n : goal.returns-else-j-n
returns-else-j-n c = sym (thing_none c.args.f.now c.args.ix.now _ _ c.if-j-n.false)
