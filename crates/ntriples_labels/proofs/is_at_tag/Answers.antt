use mathlib.Core.Path.{sym, ◌∙◌}
use Rattle.ntriples_terminals.proofs.Firsts.{head_none, head-some}
use Rattle.ntriples_labels.specs.inside.Inside.{goes_on}
use borrow.Author.Rules.{rules}
use Rattle.ntriples_labels.proofs.is_at_tag.Goals as goal

pub returns-then-line-at : goal.returns-then-line-at
returns-then-line-at c = sym (head_none (goes_on c.args.part) c.args.line.now c.args.at c.if-line-at.true)

pub char_at-requires : goal.char_at-requires
char_at-requires c = record { utf8from = c.requires; at_in_bounds = search rules }

pub returns : goal.returns
returns c = c.goes_on.ensures ∙ sym (head-some (goes_on c.args.part) c.args.line.now c.args.at _ c.char_at.ensures)
