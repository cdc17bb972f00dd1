use mathlib.Core.Path.{◌≡◌, sym, ◌∙◌}
use native.Mathlib.Omega.{arith}
use Rattle.saturate_schema.specs.inside.Nodes.{word}
use Rattle.saturate_schema.specs.inside.Squares.{at}
use Rattle.saturate_schema.proofs.Closing.{closed_start, closed_more, closed_pass, step_made}
use Rattle.saturate_squares.proofs.close.Goals as goal
use Rattle.saturate_squares.proofs.close.Goals.{then-applies, else-applies}

pub loop-j-init : goal.loop-j-init
loop-j-init c = (closed_start c.args.statements.now c.args.m c.args.columns.now c.args.ns (at c.args.square.now) c.args.via (λ i k li lk. c.requires.by_index i k), λ i k l. omega (arith, c.requires.by_index i k))

pub gains-requires : goal.gains-requires
gains-requires c = omega (arith, c.requires.columns.few, c.requires.m_in_bounds)

pub close_statement-requires : goal.close_statement-requires
close_statement-requires c = omega (arith, c.requires.columns.few, c.requires.m_in_bounds, c.gains.auto.gain)

pub loop-j-preserved : goal.loop-j-preserved
loop-j-preserved c = elim c.if-applies.branch [
  | then-applies w ↦ rw w.square-is (
    closed_more c.args.statements.now c.args.m c.args.columns.now c.args.ns (at c.loop-j.square) c.args.via c.loop-j.j (omega arith) c.requires.columns c.loop-j.invariant.0
        (at w.close_statement.new.square) (word w.gains.new.gain) _ _ _ (omega arith)
        (step_made c.args.statements.now c.args.m c.args.columns.now c.args.ns (at c.loop-j.square) (at w.close_statement.new.square) (word w.gains.new.gain) c.loop-j.j _ _ _ _ _
        w.subject_node-s.ensures w.object_node-e.ensures.0 w.column-ss.ensures w.column-so.ensures w.first_statement-go.ensures w.gains.ensures w.close_statement.ensures.extended)
        (sym c.applies.ensures ∙ w.if-applies.true),
    w.close_statement.ensures.bits c.loop-j.invariant.1,
  )
  | else-applies w ↦ rw w.square-is (
    closed_pass c.args.statements.now c.args.m c.args.columns.now c.args.ns (at c.loop-j.square) c.args.via c.loop-j.j (omega arith) c.requires.columns c.loop-j.invariant.0
        (sym c.applies.ensures ∙ w.if-applies.false),
    c.loop-j.invariant.1,
  )
]

pub returns-clause-closed : goal.returns-clause-closed
returns-clause-closed c = let e : c.loop-j.j ≡ c.args.m = omega arith in rw e at c.loop-j.invariant.0
