use mathlib.Core.Path.{◌≡◌}
use native.Mathlib.Omega.{arith}
use Rattle.saturate_schema.specs.inside.Squares.{at}
use Rattle.saturate_schema.specs.inside.Nodes.{word}
use Rattle.saturate_schema.proofs.Squares.{united-joined, united_bits, spread_start, spread_yes, spread_no}
use Rattle.saturate_schema.proofs.Closing.{leads_old}
use Rattle.saturate_squares.proofs.close_statement.Goals as goal
use Rattle.saturate_squares.proofs.close_statement.Goals.{then-leads, else-leads}

pub loop-i-init : goal.loop-i-init
loop-i-init c = (spread_start _ _ _ _, λ b. b)

pub loop-i-preserved : goal.loop-i-preserved
loop-i-preserved c =
    let old = leads_old c.args.statements.now (at c.args.square.now) (at c.loop-i.square) (word c.args.gain.now) c.args.s c.args.ss c.args.ns c.loop-i.i c.loop-i.invariant.0 in
    elim c.if-leads.branch [
      | then-leads w ↦ rw w.square-is (
        spread_yes (at c.args.square.now) (at c.loop-i.square) (word c.args.gain.now) _ _ _ c.loop-i.invariant.0 (at w.unite.new.square) _ (omega arith)
            (old.0 (c.leads.ensures.if_true w.if-leads.true))
            (united-joined _ _ _ _ _ (omega arith) w.unite.ensures),
        λ b. united_bits _ _ _ _ _ w.unite.ensures (c.loop-i.invariant.1 b),
      )
      | else-leads w ↦ rw w.square-is (
        spread_no (at c.args.square.now) (at c.loop-i.square) (word c.args.gain.now) _ _ _ c.loop-i.invariant.0 (λ z. c.leads.ensures.if_false w.if-leads.false (old.1 z)),
        c.loop-i.invariant.1,
      )
    ]

pub returns-clause-extended : goal.returns-clause-extended
returns-clause-extended c = let e : c.loop-i.i ≡ c.args.m = omega arith in rw e at c.loop-i.invariant.0.done
