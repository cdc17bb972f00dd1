-- By whether the subject is x, and whether the property has a statement.
use mathlib.Core.Path.{sym, ◌∙◌}
use native.Mathlib.Omega.{arith}
use Rattle.saturate_counts.proofs.Adding.{range-row, range_none, range_own}
use Rattle.saturate_counts.proofs.count_other.Goals as goal

pub returns-then-subject_at-x : goal.returns-then-subject_at-x
returns-then-subject_at-x c = range_own c.args.statements.now c.args.sizes.statements c.args.sizes.classes c.args.sizes.columns c.args.ranges.now c.args.ranges.now c.args.f.now c.args.x c.args.y c.requires.square c.requires.square _ (sym c.subject_at.ensures ∙ c.if-subject_at-x.true)

pub add_row-requires : goal.add_row-requires
add_row-requires c = record { g_in_bounds = omega (arith, c.requires.square.long, c.if-g-m.true); by_index = λ k l. omega (arith, c.requires.by_index k l, c.requires.square.bits c.property_group-g.result k c.if-g-m.true (omega arith)) }

pub returns-then-g-m : goal.returns-then-g-m
returns-then-g-m c = range-row c.args.statements.now c.args.sizes.statements c.args.sizes.classes c.args.sizes.columns c.args.ranges.now c.args.ranges.now c.args.f.now c.args.x c.args.y c.requires.square c.requires.square _ _ _ (omega arith) (λ q. c.if-subject_at-x.false (c.subject_at.ensures ∙ q)) (rw c.property_at.ensures at c.property_group-g.ensures) c.if-g-m.true c.add_row.ensures

pub returns-else-g-m : goal.returns-else-g-m
returns-else-g-m c = range_none c.args.statements.now c.args.sizes.statements c.args.sizes.classes c.args.sizes.columns c.args.ranges.now c.args.ranges.now c.args.f.now c.args.x c.args.y c.requires.square c.requires.square _ _ (λ q. c.if-subject_at-x.false (c.subject_at.ensures ∙ q)) (rw c.property_at.ensures at c.property_group-g.ensures) c.if-g-m.false
