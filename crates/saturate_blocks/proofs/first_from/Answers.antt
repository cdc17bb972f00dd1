use mathlib.Core.Path.{◌≡◌}
use native.Mathlib.Omega.{arith}
use Rattle.saturate_blocks.proofs.Plain.{split_here, split_end, below_more}
use Rattle.saturate_blocks.proofs.first_from.Goals as goal

pub returns-then-w-wide : goal.returns-then-w-wide
returns-then-w-wide c = split_here c.args.f.now _ _ _ _ c.requires.one_subject (omega arith) (omega arith) c.loop-z.invariant (omega (arith, c.property_at.ensures, c.wide.ensures.0, c.if-w-wide.true))

pub loop-z-preserved : goal.loop-z-preserved
loop-z-preserved c = below_more c.args.f.now _ _ _ c.loop-z.invariant (omega (arith, c.property_at.ensures, c.wide.ensures.0, c.if-w-wide.false))

pub returns : goal.returns
returns c = let q : c.loop-z.z ≡ c.args.e = omega arith in rw q at (split_end c.args.f.now _ _ _ _ (omega arith) q c.loop-z.invariant)
