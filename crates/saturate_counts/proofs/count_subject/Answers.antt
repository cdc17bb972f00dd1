use mathlib.Core.Path.{◌≡◌}
use native.Mathlib.Omega.{arith}
use Rattle.saturate_counts.proofs.Adding.{own_bit_lem, summed_none, summed_more, summed_few}
use Rattle.saturate_counts.proofs.count_subject.Goals as goal

pub loop-y-init : goal.loop-y-init
loop-y-init c = summed_none _ _ _ _

pub count_fact-requires : goal.count_fact-requires
count_fact-requires c = record { statements = c.requires.statements; square = c.requires.square; square_2 = c.requires.square_2; y_in_bounds = (omega arith); by_index = λ k l. omega (arith, c.requires.by_index k l, summed_few _ _ _ _ _ _ c.loop-y.invariant (omega arith) (λ q z lq _ _. own_bit_lem c.args.statements.now c.args.sizes.statements c.args.sizes.classes c.args.sizes.columns c.args.domains.now c.args.ranges.now c.args.f.now c.args.own.term z c.requires.square c.requires.square_2 q lq) k l) }

pub loop-y-preserved : goal.loop-y-preserved
loop-y-preserved c = summed_more _ _ _ _ _ _ _ c.loop-y.invariant c.count_fact.ensures

pub returns : goal.returns
returns c = let q : c.loop-y.y ≡ c.args.own.end = omega arith in rw q at c.loop-y.invariant
