use native.Mathlib.Omega.{arith}
use mathlib.Core.Path.{sym, ◌∙◌}
use Rattle.ntriples_labels.proofs.Naming.{label_start, label_end, label-on, label-dotted, label-off}
use borrow.Author.Rules.{rules}
use Rattle.ntriples_labels.proofs.label_end.Goals as goal

pub loop-at-init : goal.loop-at-init
loop-at-init c = label_start c.args.line.now c.args.from c.requires

pub char_at-m-requires : goal.char_at-m-requires
char_at-m-requires c = record { utf8from = c.loop-at.invariant.utf8; at_in_bounds = c.loop-at-test.true }

pub loop-at-smaller-then-is_pn_chars : goal.loop-at-smaller-then-is_pn_chars
loop-at-smaller-then-is_pn_chars c = omega (arith, c.loop-at-test.true, c.char_at-m.ensures.after)

pub loop-at-preserved-then-is_pn_chars : goal.loop-at-preserved-then-is_pn_chars
loop-at-preserved-then-is_pn_chars c = label-on c.args.line.now c.args.from c.loop-at.end c.loop-at.at c.loop-at.invariant _ c.char_at-m.ensures (sym c.is_pn_chars.ensures ∙ c.if-is_pn_chars.true)

pub returns-then-m : goal.returns-then-m
returns-then-m c = label-off c.args.line.now c.args.from c.loop-at.end c.loop-at.at c.loop-at.invariant _ c.char_at-m.ensures (sym c.is_pn_chars.ensures ∙ c.if-is_pn_chars.false) c.if-m.true

pub loop-at-smaller : goal.loop-at-smaller
loop-at-smaller c = omega (arith, c.loop-at-test.true, c.char_at-m.ensures.after)

pub loop-at-preserved : goal.loop-at-preserved
loop-at-preserved c = label-dotted c.args.line.now c.args.from c.loop-at.end c.loop-at.at c.loop-at.invariant _ c.char_at-m.ensures (sym c.is_pn_chars.ensures ∙ c.if-is_pn_chars.false) c.if-m.false

pub returns : goal.returns
returns c = label_end c.args.line.now c.args.from c.loop-at.end c.loop-at.at c.loop-at.invariant (search rules)
