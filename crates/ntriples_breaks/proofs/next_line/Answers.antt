use Rattle.ntriples_breaks.proofs.Breaking.{next_more, next_none}
use borrow.Author.Rules.{rules}
use Rattle.ntriples_breaks.proofs.next_line.Goals as goal

pub returns-then-end-file : goal.returns-then-end-file
returns-then-end-file c = next_more c.args.file.now c.args.end c.if-end-file.true

pub returns : goal.returns
returns c = next_none c.args.file.now c.args.end (search rules)
