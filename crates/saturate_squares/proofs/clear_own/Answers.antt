use native.Mathlib.Omega.{arith}
use Rattle.saturate_schema.proofs.Closing.{clear_start, clear-set, clear_pass}
use Rattle.saturate_squares.proofs.clear_own.Goals as goal
use Rattle.saturate_squares.proofs.clear_own.Goals.{then-c-ns, else-c-ns}

pub loop-i-init : goal.loop-i-init
loop-i-init c = clear_start c.args.statements.now c.args.columns.now _ c.args.square.now

pub loop-i-preserved : goal.loop-i-preserved
loop-i-preserved c =
    elim c.if-c-ns.branch [
      | then-c-ns w ↦ rw w.square-is (clear-set c.args.statements.now c.args.columns.now _ _ c.loop-i.square _ _ c.requires.by_index (omega arith) c.loop-i.invariant (rw (← c.subject_node.ensures) c.column-c.ensures) w.if-c-ns.true (omega arith))
      | else-c-ns w ↦ rw w.square-is (clear_pass c.args.statements.now c.args.columns.now _ _ _ _ _ c.loop-i.invariant (rw (← c.subject_node.ensures) c.column-c.ensures) w.if-c-ns.false)
    ]
