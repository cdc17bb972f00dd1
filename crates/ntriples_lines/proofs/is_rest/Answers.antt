use Rattle.ntriples_lines.proofs.Lines.{rest_end, rest_some}
use Rattle.ntriples_lines.proofs.is_rest.Goals as goal

pub returns-then-line-at : goal.returns-then-line-at
returns-then-line-at c = rest_end c.args.line.now c.args.at c.if-line-at.true

pub returns : goal.returns
returns c = rest_some c.args.line.now c.args.at _ c.char_at.ensures
