use mathlib.Core.Path.{◌≡◌, sym, ◌∙◌}
use native.Mathlib.Omega.{arith}
use Rattle.saturate_blocks.proofs.Gathering.{same_start, same_more, block_here, block_last}
use Rattle.saturate_blocks.proofs.block_end.Goals as goal

pub loop-z-init : goal.loop-z-init
loop-z-init c = same_start c.args.f.now _

pub returns-then-property_at-p : goal.returns-then-property_at-p
returns-then-property_at-p c = block_here c.args.f.now _ _ _ c.requires.one_subject c.loop-z.invariant (omega arith) (λ q. c.if-property_at-p.true (c.property_at.ensures ∙ q ∙ sym c.property_at-p.ensures))

pub loop-z-preserved : goal.loop-z-preserved
loop-z-preserved c = same_more c.args.f.now _ _ c.loop-z.invariant (sym c.property_at.ensures ∙ c.if-property_at-p.false ∙ c.property_at-p.ensures)

pub returns : goal.returns
returns c = let q : c.loop-z.z ≡ c.args.e = omega (arith, c.loop-z.auto.z-end (omega (arith, c.requires.a_lt_e.0))) in rw q at (block_last c.args.f.now _ _ _ c.loop-z.invariant q)
