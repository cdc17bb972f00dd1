use Prim.Native.Nat.{◌-◌}
use mathlib.Core.Path.{◌≡◌, sym, ◌∙◌}
use mathlib.Core.Bool.{true, false}
use native.Mathlib.Omega.{arith}
use Rattle.spec.specs.Terms.{is_allowed_statement}
use Rattle.spec.specs.Order.{is_less}
use Rattle.spec.specs.Tables.{row_at}
use Rattle.spec.proofs.TableAll.{answered}
use Rattle.table_rows.proofs.Scan.{refused, passed, ascended, not_ascended, no_row}
use Rattle.table_rows.proofs.are_statement_rows.Goals as goal
use Rattle.table_rows.proofs.are_statement_rows.Goals.{else-i-gt0-via-then-i-gt0+else-not-is_before, else-i-gt0-via-else-i-gt0}

pub returns-then-not-is_allowed_statement : goal.returns-then-not-is_allowed_statement
returns-then-not-is_allowed_statement c = let wrong = answered is_allowed_statement c.row_at-row.ensures c.is_allowed_statement.ensures c.if-not-is_allowed_statement.true in
    sym (c.loop-i.invariant ∙ refused is_allowed_statement c.args.t.now c.args.n c.loop-i.i c.loop-i-test.true wrong)

pub returns-then-not-is_before : goal.returns-then-not-is_before
returns-then-not-is_before c = let l : is_less (row_at c.args.t.now (c.loop-i.i - 1)) (row_at c.args.t.now c.loop-i.i) ≡ false = cc in
    sym (c.loop-i.invariant ∙ not_ascended is_allowed_statement c.args.t.now c.args.n c.loop-i.i c.if-i-gt0.true c.loop-i-test.true l)

pub loop-i-preserved : goal.loop-i-preserved
loop-i-preserved c = let right = answered is_allowed_statement c.row_at-row.ensures c.is_allowed_statement.ensures c.if-not-is_allowed_statement.false in
    c.loop-i.invariant ∙ elim c.else-i-gt0.branch [
      | else-i-gt0-via-then-i-gt0+else-not-is_before w ↦
          let l : is_less (row_at c.args.t.now (c.loop-i.i - 1)) (row_at c.args.t.now c.loop-i.i) ≡ true = cc in
          ascended is_allowed_statement c.args.t.now c.args.n c.loop-i.i w.if-i-gt0.true c.loop-i-test.true right l
      | else-i-gt0-via-else-i-gt0 w ↦ passed is_allowed_statement c.args.t.now c.args.n c.loop-i.i (omega (arith, w.if-i-gt0.false)) c.loop-i-test.true right
    ]

pub returns : goal.returns
returns c = sym (c.loop-i.invariant ∙ no_row is_allowed_statement c.args.t.now c.args.n c.loop-i.i c.loop-i-test.false)
