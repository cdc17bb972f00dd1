-- The bit of the property is that of its group's row.
use mathlib.Core.Path.{sym, ap}
use Prim.Native.Nat.{ℕ}
use native.Mathlib.Omega.{arith}
use lib.Dec.{eqb}
use Rattle.saturate_schema.specs.inside.Nodes.{property_node}
use Rattle.saturate_counts.proofs.NodeBits.{node_found, node_none}
use Rattle.saturate_blocks.proofs.leads_to.Goals as goal

pub returns-then-g-m : goal.returns-then-g-m
returns-then-g-m c = ap (λ (b : ℕ). eqb b 1) (sym (node_found c.args.statements.now c.args.sizes.statements c.args.sizes.columns c.args.domains.now c.requires.square (property_node c.args.p) c.args.c c.property_group-g.result c.property_group-g.ensures c.if-g-m.true (omega arith)))

pub returns : goal.returns
returns c = ap (λ (b : ℕ). eqb b 1) (sym (node_none c.args.statements.now c.args.sizes.statements c.args.sizes.columns c.args.domains.now c.requires.square (property_node c.args.p) c.args.c c.property_group-g.result c.property_group-g.ensures c.if-g-m.false))
