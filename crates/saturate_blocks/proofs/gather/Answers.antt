use mathlib.Core.Path.{◌≡◌, sym, ◌∙◌}
use native.Mathlib.Omega.{arith}
use Rattle.saturate_schema.specs.inside.Nodes.{property_node}
use Rattle.saturate_schema.specs.inside.Compiled.{property_at, node_bit}
use Rattle.saturate_counts.proofs.NodeBits.{node_bit_lem}
use Rattle.saturate_blocks.proofs.Gathering.{gather_start, gather_long, gather_yes, gather_no, facts_from, rows_rising, leads_yes, leads_no}
use lib.ListN.{length-set}
use Rattle.saturate_blocks.proofs.gather.Goals as goal

pub loop-y-init : goal.loop-y-init
loop-y-init c = gather_start c.args.statements.now _ c.args.domains.now _ c.args.f.now c.args.ends.now _ _ _ (omega (arith, c.requires.c_lt_columns)) c.requires.all_rising.0 c.requires.all_rising.1

pub block_end-z-requires : goal.block_end-z-requires
block_end-z-requires c = record { a_lt_e = omega (arith, c.requires.c_lt_columns); one_subject = facts_from c.args.f.now _ _ _ c.loop-y.invariant.low c.requires.one_subject }

pub property_at-requires : goal.property_at-requires
property_at-requires c = omega (arith, c.requires.c_lt_columns)

pub leads_to-requires : goal.leads_to-requires
leads_to-requires c = record { statements = c.requires.statements; square = c.requires.square; c_lt_columns = omega (arith, c.requires.c_lt_columns) }

pub overflow_mul-ends : goal.overflow_mul-ends
overflow_mul-ends c = omega (arith, gather_long _ _ _ _ _ _ _ _ _ _ _ _ _ _ c.loop-y.invariant c.block_end-z.ensures c.property_at.ensures c.leads_to.ensures c.if-leads_to.true c.requires.c_lt_columns.4)

pub offset_bounds-ends-k : goal.offset_bounds-ends-k
offset_bounds-ends-k c = omega (arith, gather_long _ _ _ _ _ _ _ _ _ _ _ _ _ _ c.loop-y.invariant c.block_end-z.ensures c.property_at.ensures c.leads_to.ensures c.if-leads_to.true c.requires.c_lt_columns.4)

pub bounds-ends-k : goal.bounds-ends-k
bounds-ends-k c = omega (arith, gather_long _ _ _ _ _ _ _ _ _ _ _ _ _ _ c.loop-y.invariant c.block_end-z.ensures c.property_at.ensures c.leads_to.ensures c.if-leads_to.true c.requires.c_lt_columns.4)

pub overflow_mul-ends-then-leads_to : goal.overflow_mul-ends-then-leads_to
overflow_mul-ends-then-leads_to c = omega (arith, gather_long _ _ _ _ _ _ _ _ _ _ _ _ _ _ c.loop-y.invariant c.block_end-z.ensures c.property_at.ensures c.leads_to.ensures c.if-leads_to.true c.requires.c_lt_columns.4)

pub overflow_add-ends : goal.overflow_add-ends
overflow_add-ends c = omega (arith, gather_long _ _ _ _ _ _ _ _ _ _ _ _ _ _ c.loop-y.invariant c.block_end-z.ensures c.property_at.ensures c.leads_to.ensures c.if-leads_to.true c.requires.c_lt_columns.4)

pub offset_bounds-ends-k-then-leads_to : goal.offset_bounds-ends-k-then-leads_to
offset_bounds-ends-k-then-leads_to c = omega (arith, gather_long _ _ _ _ _ _ _ _ _ _ _ _ _ _ c.loop-y.invariant c.block_end-z.ensures c.property_at.ensures c.leads_to.ensures c.if-leads_to.true c.requires.c_lt_columns.4)

pub bounds-ends-k-then-leads_to : goal.bounds-ends-k-then-leads_to
bounds-ends-k-then-leads_to c = simp length-set (omega (arith, gather_long _ _ _ _ _ _ _ _ _ _ _ _ _ _ c.loop-y.invariant c.block_end-z.ensures c.property_at.ensures c.leads_to.ensures c.if-leads_to.true c.requires.c_lt_columns.4))

pub overflow_add-k : goal.overflow_add-k
overflow_add-k c = omega (arith, gather_long _ _ _ _ _ _ _ _ _ _ _ _ _ _ c.loop-y.invariant c.block_end-z.ensures c.property_at.ensures c.leads_to.ensures c.if-leads_to.true c.requires.c_lt_columns.4, c.requires.c_lt_columns)

pub loop-y-smaller-then-leads_to : goal.loop-y-smaller-then-leads_to
loop-y-smaller-then-leads_to c = omega (arith, c.block_end-z.ensures.grows, c.block_end-z.ensures.ends)

pub loop-y-preserved-then-leads_to : goal.loop-y-preserved-then-leads_to
loop-y-preserved-then-leads_to c = let h : (node_bit c.args.statements.now c.args.sizes.statements c.args.domains.now (property_node (property_at c.args.f.now c.loop-y.y)) c.args.c) ≡ 1 = leads_yes _ (rw c.property_at.ensures at (sym c.leads_to.ensures ∙ c.if-leads_to.true)) in gather_yes c.args.statements.now c.args.sizes.statements c.args.domains.now c.args.c c.args.f.now c.args.ends.now c.loop-y.ends _ _ _ c.loop-y.y _ _ _ c.loop-y.invariant c.block_end-z.ensures h (omega (arith, c.requires.c_lt_columns)) (gather_long _ _ _ _ _ _ _ _ _ _ _ _ _ _ c.loop-y.invariant c.block_end-z.ensures c.property_at.ensures c.leads_to.ensures c.if-leads_to.true c.requires.c_lt_columns.4) (rows_rising c.args.f.now _ _ _ _ _ c.requires.one_subject c.loop-y.invariant.low c.block_end-z.ensures.ends c.block_end-z.ensures.all)

pub loop-y-smaller : goal.loop-y-smaller
loop-y-smaller c = omega (arith, c.block_end-z.ensures.grows, c.block_end-z.ensures.ends)

pub loop-y-preserved : goal.loop-y-preserved
loop-y-preserved c = gather_no c.args.statements.now c.args.sizes.statements c.args.domains.now c.args.c c.args.f.now c.args.ends.now c.loop-y.ends _ _ _ c.loop-y.y _ _ _ c.loop-y.invariant c.block_end-z.ensures (leads_no _ (node_bit_lem c.args.statements.now _ c.args.sizes.columns c.args.domains.now c.requires.square _ c.args.c (omega (arith, c.requires.c_lt_columns))) (rw c.property_at.ensures at (sym c.leads_to.ensures ∙ c.if-leads_to.false)))

pub returns : goal.returns
returns c = let q : c.loop-y.y ≡ c.args.e = omega (arith, c.loop-y.invariant.high) in rw q at c.loop-y.invariant
