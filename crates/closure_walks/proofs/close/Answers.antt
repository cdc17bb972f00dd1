use native.Mathlib.Omega.{arith}
use mathlib.Core.Path.{sym, ◌∙◌}
use Rattle.saturate_schema.proofs.Closing.{closed_start, closed_more, closed_pass, step_made}
use Rattle.closure_words.specs.inside.Layout.{bit_at}
use Rattle.closure_rows.specs.inside.Rows.{row_bit}
use Rattle.closure_walks.proofs.close.Goals as goal
use Rattle.closure_walks.proofs.close.Goals.{then-applies, else-applies}

pub loop-j-init : goal.loop-j-init
loop-j-init c = closed_start c.args.statements.now _ c.args.columns.now _ (bit_at c.args.closure.now) 0 c.requires.by_index

pub loop-j-preserved : goal.loop-j-preserved
loop-j-preserved c =
    let bit = bit_at c.loop-j.closure in
    elim c.if-applies.branch [
      | then-applies w ↦
          let bit' = bit_at w.close_statement.new.closure in
          let gain = row_bit w.gains.new.gain in
          rw w.closure-is (closed_more c.args.statements.now _ c.args.columns.now _ bit 0 c.loop-j.j (omega arith) c.requires.columns c.loop-j.invariant bit' gain _ _ _ c.loop-j-test.true
          (step_made c.args.statements.now _ c.args.columns.now _ bit bit' gain _ _ _ _ _ _ w.subject_node-s.ensures w.object_node-e.ensures.0 w.column-ss.ensures w.column-so.ensures
          w.first_statement-go.ensures (λ k l. w.gains.ensures k (omega (arith, c.requires.columns.few))) w.close_statement.ensures)
          (sym c.applies.ensures ∙ w.if-applies.true))
      | else-applies w ↦
          rw w.closure-is (closed_pass c.args.statements.now _ c.args.columns.now _ bit 0 c.loop-j.j (omega arith) c.requires.columns c.loop-j.invariant
          (sym c.applies.ensures ∙ w.if-applies.false))
    ]
