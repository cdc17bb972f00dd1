-- By the kind of the fact and whether its group has a statement.
use mathlib.Core.Path.{sym, ◌∙◌}
use native.Mathlib.Omega.{arith}
use Rattle.saturate_counts.proofs.Adding.{type_row, type_none, other_row, self_row, property_none, either-at_bit}
use Rattle.saturate_counts.proofs.count_fact.Goals as goal

pub add_row-requires : goal.add_row-requires
add_row-requires c = record { g_in_bounds = omega (arith, c.requires.square.long, c.requires.square_2.long, c.if-a-m.true); by_index = λ k l. omega (arith, c.requires.by_index k l, c.requires.square.bits c.class_group-a.result k c.if-a-m.true l) }

pub returns-then-a-m : goal.returns-then-a-m
returns-then-a-m c = type_row c.args.statements.now c.args.sizes.statements c.args.sizes.classes c.args.sizes.columns c.args.domains.now c.args.ranges.now c.args.f.now c.args.x c.args.y c.requires.square c.requires.square_2 _ _ _ (sym c.property_at-p.ensures ∙ c.if-p-eq-TYPE.true) (rw c.object_at-o.ensures at c.class_group-a.ensures) c.if-a-m.true c.add_row.ensures

pub returns-else-a-m : goal.returns-else-a-m
returns-else-a-m c = type_none c.args.statements.now c.args.sizes.statements c.args.sizes.classes c.args.sizes.columns c.args.domains.now c.args.ranges.now c.args.f.now c.args.x c.args.y c.requires.square c.requires.square_2 _ _ (sym c.property_at-p.ensures ∙ c.if-p-eq-TYPE.true) (rw c.object_at-o.ensures at c.class_group-a.ensures) c.if-a-m.false

pub add_either-requires : goal.add_either-requires
add_either-requires c = record { g_in_bounds = omega (arith, c.requires.square.long, c.requires.square_2.long, c.if-g-m.true); by_index = λ k l. omega (arith, c.requires.by_index k l, either-at_bit c.args.domains.now c.args.ranges.now c.args.sizes.classes c.property_group-g.result k (c.requires.square.bits c.property_group-g.result k c.if-g-m.true l) (c.requires.square_2.bits c.property_group-g.result k c.if-g-m.true l)) }

pub add_row-requires-else-o-x : goal.add_row-requires-else-o-x
add_row-requires-else-o-x c = record { g_in_bounds = omega (arith, c.requires.square.long, c.requires.square_2.long, c.if-g-m.true); by_index = λ k l. omega (arith, c.requires.by_index k l, c.requires.square.bits c.property_group-g.result k c.if-g-m.true l) }

pub returns-then-o-x : goal.returns-then-o-x
returns-then-o-x c = self_row c.args.statements.now c.args.sizes.statements c.args.sizes.classes c.args.sizes.columns c.args.domains.now c.args.ranges.now c.args.f.now c.args.x c.args.y c.requires.square c.requires.square_2 _ _ _ (λ q. c.if-p-eq-TYPE.false (c.property_at-p.ensures ∙ q)) (sym c.object_at-o.ensures ∙ c.if-o-x.true) (rw c.property_at-p.ensures at c.property_group-g.ensures) c.if-g-m.true c.add_either.ensures

pub returns-else-o-x : goal.returns-else-o-x
returns-else-o-x c = other_row c.args.statements.now c.args.sizes.statements c.args.sizes.classes c.args.sizes.columns c.args.domains.now c.args.ranges.now c.args.f.now c.args.x c.args.y c.requires.square c.requires.square_2 _ _ _ (λ q. c.if-p-eq-TYPE.false (c.property_at-p.ensures ∙ q)) (λ q. c.if-o-x.false (c.object_at-o.ensures ∙ q)) (rw c.property_at-p.ensures at c.property_group-g.ensures) c.if-g-m.true c.add_row-else-o-x.ensures

pub returns-else-g-m : goal.returns-else-g-m
returns-else-g-m c = property_none c.args.statements.now c.args.sizes.statements c.args.sizes.classes c.args.sizes.columns c.args.domains.now c.args.ranges.now c.args.f.now c.args.x c.args.y c.requires.square c.requires.square_2 _ _ (λ q. c.if-p-eq-TYPE.false (c.property_at-p.ensures ∙ q)) (rw c.property_at-p.ensures at c.property_group-g.ensures) c.if-g-m.false
