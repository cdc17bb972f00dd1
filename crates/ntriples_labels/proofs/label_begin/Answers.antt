use Rattle.ntriples_terminals.proofs.Firsts.{behind_none, behind-some, behind-other}
use mathlib.Core.Bool.{◌||◌}
use Rattle.spec_ntriples.specs.Characters.{is_pn_chars_u, is_digit}
use borrow.Author.Rules.{rules}
use Rattle.ntriples_labels.proofs.label_begin.Goals as goal

pub returns-then-line-at : goal.returns-then-line-at
returns-then-line-at c = behind_none (λ x. is_pn_chars_u x || is_digit x) c.args.line.now c.args.at c.if-line-at.true

pub char_at-m-requires : goal.char_at-m-requires
char_at-m-requires c = record { utf8from = c.requires; at_in_bounds = search rules }

pub returns-then-is_pn_chars_u-is_digit : goal.returns-then-is_pn_chars_u-is_digit
returns-then-is_pn_chars_u-is_digit c = behind-some (λ x. is_pn_chars_u x || is_digit x) c.args.line.now c.args.at _ c.char_at-m.ensures (rw (← c.is_pn_chars_u.ensures, ← c.is_digit.ensures) c.if-is_pn_chars_u-is_digit.true)

pub returns : goal.returns
returns c = behind-other (λ x. is_pn_chars_u x || is_digit x) c.args.line.now c.args.at _ c.char_at-m.ensures (rw (← c.is_pn_chars_u.ensures, ← c.is_digit.ensures) c.if-is_pn_chars_u-is_digit.false)
