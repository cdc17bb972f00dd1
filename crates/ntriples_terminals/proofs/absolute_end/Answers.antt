use mathlib.Core.Path.{sym, ◌∙◌}
use Rattle.ntriples_terminals.proofs.Ending.{end_same, absolute_stuck, absolute_end, absolute-on, absolute-off}
use Rattle.ntriples_terminals.proofs.absolute_end.Goals as goal

pub returns-then-line-from : goal.returns-then-line-from
returns-then-line-from c = absolute_end c.args.line.now c.args.from c.if-line-from.true

pub scheme_end-requires : goal.scheme_end-requires
scheme_end-requires c = (rw c.in-Gives.is at c.piece_at.ensures).1.0

pub returns-then-is_letter : goal.returns-then-is_letter
returns-then-is_letter c = end_same c.args.line.now _ _ c.scheme_end.result (absolute-on c.args.line.now c.args.from _ _ (rw c.in-Gives.is at c.piece_at.ensures) (sym c.is_letter.ensures ∙ c.if-is_letter.true)) c.scheme_end.ensures

pub returns : goal.returns
returns c = absolute-off c.args.line.now c.args.from _ _ (rw c.in-Gives.is at c.piece_at.ensures) (sym c.is_letter.ensures ∙ c.if-is_letter.false)

pub returns-in_default : goal.returns-in_default
returns-in_default c = absolute_stuck c.args.line.now c.args.from _ c.piece_at.ensures c.in_default.not-Gives
