use mathlib.Core.Path.{◌≡◌, sym, ◌∙◌}
use native.Mathlib.Omega.{arith}
use Rattle.saturate_index.specs.inside.Index.{object_of}
use Rattle.saturate_next.proofs.NextLaws.{all_more, end_here, end_last}
use Rattle.saturate_next.proofs.object_end.Goals as goal

pub object_of-requires : goal.object_of-requires
object_of-requires c = record { a_in_bounds = omega (arith, c.requires.index.long); a_in_bounds_2 = omega (arith, c.requires.index.fit, c.requires.index.below c.loop-h.h (omega arith)) }

pub returns-then-object_of-x : goal.returns-then-object_of-x
returns-then-object_of-x c = end_here (object_of c.args.f.now c.args.ix.now) _ _ _ _ (omega arith) (omega arith) c.loop-h.invariant (λ q. c.if-object_of-x.true (c.object_of.ensures ∙ q))

pub loop-h-preserved : goal.loop-h-preserved
loop-h-preserved c = all_more (object_of c.args.f.now c.args.ix.now) _ _ _ c.loop-h.invariant (sym c.object_of.ensures ∙ c.if-object_of-x.false)

pub returns : goal.returns
returns c = let q : c.loop-h.h ≡ c.args.n = omega arith in rw q at (end_last (object_of c.args.f.now c.args.ix.now) _ _ _ _ (omega arith) q c.loop-h.invariant)
