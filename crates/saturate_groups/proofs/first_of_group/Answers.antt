-- The first statement that is not below the least of the group is of the group, or there is none.
use mathlib.Core.Path.{refl, sym, ◌∙◌}
use native.Mathlib.Omega.{arith}
use Rattle.table.proofs.SearchLaws.{between-all}
use Rattle.saturate_schema.specs.inside.Nodes.{found}
use Rattle.saturate_groups.proofs.Groups.{group-none}
use Rattle.saturate_groups.proofs.first_of_group.Goals as goal

pub lower_bound-r-requires : goal.lower_bound-r-requires
lower_bound-r-requires c = record { rising = c.requires.statements.rising; between = between-all _ _ _ }

pub returns-then-subject_node-x : goal.returns-then-subject_node-x
returns-then-subject_node-x c = found c.if-r-m.true (sym c.subject_node.ensures ∙ c.if-subject_node-x.true)

pub returns-else-subject_node-x : goal.returns-else-subject_node-x
returns-else-subject_node-x c = group-none c.args.statements.now _ c.requires.statements c.requires.group c.lower_bound-r.ensures refl (λ _ e. c.if-subject_node-x.false (c.subject_node.ensures ∙ e))

pub returns-else-r-m : goal.returns-else-r-m
returns-else-r-m c = group-none c.args.statements.now _ c.requires.statements c.requires.group c.lower_bound-r.ensures refl (λ h. absurd (omega (arith, c.if-r-m.false)))
