use native.Mathlib.Omega.{arith}
use mathlib.Core.Path.{sym, ◌∙◌}
use Rattle.ntriples_bytes.proofs.Decoding.{from_marked}
use Rattle.ntriples_labels.proofs.Naming.{tag_start, tag_end, tag-on, tag-off, tag-stop, tag-hyphen}
use borrow.Author.Rules.{rules}
use Rattle.ntriples_labels.proofs.tag_end.Goals as goal

pub loop-at-init : goal.loop-at-init
loop-at-init c = tag_start c.args.line.now c.args.from c.requires

pub char_at-m-requires : goal.char_at-m-requires
char_at-m-requires c = record { utf8from = c.loop-at.invariant.utf8; at_in_bounds = c.loop-at-test.true }

pub loop-at-smaller-then-goes_on : goal.loop-at-smaller-then-goes_on
loop-at-smaller-then-goes_on c = omega (arith, c.loop-at-test.true, c.char_at-m.ensures.after)

pub loop-at-preserved-then-goes_on : goal.loop-at-preserved-then-goes_on
loop-at-preserved-then-goes_on c = tag-on c.args.line.now c.args.from c.loop-at.part c.loop-at.at c.loop-at.invariant _ c.char_at-m.ensures (sym c.goes_on.ensures ∙ c.if-goes_on.true)

pub returns-then-m : goal.returns-then-m
returns-then-m c = tag-off c.args.line.now c.args.from c.loop-at.part c.loop-at.at c.loop-at.invariant _ c.char_at-m.ensures (sym c.goes_on.ensures ∙ c.if-goes_on.false) c.if-m.true

pub is_at_tag-requires : goal.is_at_tag-requires
is_at_tag-requires c = from_marked c.char_at-m.ensures

pub returns-then-not-is_at_tag : goal.returns-then-not-is_at_tag
returns-then-not-is_at_tag c = tag-stop c.args.line.now c.args.from c.loop-at.part c.loop-at.at c.loop-at.invariant _ c.char_at-m.ensures (sym c.goes_on.ensures ∙ c.if-goes_on.false) c.if-m.false (sym c.is_at_tag.ensures ∙ c.if-not-is_at_tag.true)

pub loop-at-smaller : goal.loop-at-smaller
loop-at-smaller c = omega (arith, c.loop-at-test.true, c.char_at-m.ensures.after)

pub loop-at-preserved : goal.loop-at-preserved
loop-at-preserved c = tag-hyphen c.args.line.now c.args.from c.loop-at.part c.loop-at.at c.loop-at.invariant _ c.char_at-m.ensures (sym c.goes_on.ensures ∙ c.if-goes_on.false) c.if-m.false (sym c.is_at_tag.ensures ∙ c.if-not-is_at_tag.false)

pub returns : goal.returns
returns c = tag_end c.args.line.now c.args.from c.loop-at.part c.loop-at.at c.loop-at.invariant (search rules)
