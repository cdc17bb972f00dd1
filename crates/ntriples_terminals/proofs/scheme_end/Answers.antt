use native.Mathlib.Omega.{arith}
use mathlib.Core.Path.{sym, ◌∙◌}
use Rattle.ntriples_terminals.proofs.Ending.{end_same, scheme_stuck, scheme_end, scheme-colon, scheme-on, scheme-off}
use borrow.Author.Rules.{rules}
use Rattle.ntriples_terminals.proofs.scheme_end.Goals as goal

pub closing_end-requires : goal.closing_end-requires
closing_end-requires c = (rw c.in-Gives.is at c.piece_at.ensures).1.0

pub returns-then-c : goal.returns-then-c
returns-then-c c = end_same c.args.line.now _ _ c.closing_end.result (c.loop-at.invariant.1 ∙ scheme-colon c.args.line.now c.loop-at.at _ _ (rw c.in-Gives.is at c.piece_at.ensures) c.if-c.true) c.closing_end.ensures

pub returns-then-not-is_scheme_char : goal.returns-then-not-is_scheme_char
returns-then-not-is_scheme_char c = c.loop-at.invariant.1 ∙ scheme-off c.args.line.now c.loop-at.at _ _ (rw c.in-Gives.is at c.piece_at.ensures) c.if-c.false (sym c.is_scheme_char.ensures ∙ c.if-not-is_scheme_char.true)

pub loop-at-smaller : goal.loop-at-smaller
loop-at-smaller c = omega (arith, (rw c.in-Gives.is at c.piece_at.ensures).1.1, c.loop-at-test.true)

pub loop-at-preserved : goal.loop-at-preserved
loop-at-preserved c = ((rw c.in-Gives.is at c.piece_at.ensures).1.0, c.loop-at.invariant.1 ∙ scheme-on c.args.line.now c.loop-at.at _ _ (rw c.in-Gives.is at c.piece_at.ensures) c.if-c.false (sym c.is_scheme_char.ensures ∙ c.if-not-is_scheme_char.false))

pub returns : goal.returns
returns c = c.loop-at.invariant.1 ∙ scheme_end c.args.line.now c.loop-at.at (search rules)

pub returns-in_default : goal.returns-in_default
returns-in_default c = c.loop-at.invariant.1 ∙ scheme_stuck c.args.line.now c.loop-at.at _ c.piece_at.ensures c.in_default.not-Gives
