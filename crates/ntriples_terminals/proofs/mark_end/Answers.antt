use Rattle.ntriples_terminals.proofs.Firsts.{behind_none, behind-some, behind-other}
use lib.Dec.{eqb}
use borrow.Author.Tests.{eq-eqb, ne_eqb}
use borrow.Author.Rules.{rules}
use Rattle.ntriples_terminals.proofs.mark_end.Goals as goal

pub returns-then-line-at : goal.returns-then-line-at
returns-then-line-at c = behind_none (λ x. eqb x c.args.mark) c.args.line.now c.args.at c.if-line-at.true

pub char_at-m-requires : goal.char_at-m-requires
char_at-m-requires c = record { utf8from = c.requires; at_in_bounds = search rules }

pub returns-then-m-mark : goal.returns-then-m-mark
returns-then-m-mark c = behind-some (λ x. eqb x c.args.mark) c.args.line.now c.args.at _ c.char_at-m.ensures (eq-eqb _ _ c.if-m-mark.true)

pub returns : goal.returns
returns c = behind-other (λ x. eqb x c.args.mark) c.args.line.now c.args.at _ c.char_at-m.ensures (ne_eqb _ _ c.if-m-mark.false)
