use mathlib.Core.Path.{refl, sym, ◌∙◌}
use native.Mathlib.Omega.{arith}
use Rattle.spec_ntriples.specs.Dictionary.{entries}
use Rattle.ntriples_have_texts.proofs.Words.{texts_first, texts_stop, texts_more, texts_end}
use Rattle.ntriples_have_texts.proofs.have_texts.Goals as goal

pub loop-term-init : goal.loop-term-init
loop-term-init c = λ bs d F. texts_first (entries bs) c.args.table.now _ c.requires refl

pub returns-then-not-has_text : goal.returns-then-not-has_text
returns-then-not-has_text c = λ bs d F. sym (texts_stop (entries bs) _ c.loop-term.term-index (omega arith) (sym (c.has_text.ensures bs d F) ∙ c.if-not-has_text.true)) ∙ c.loop-term.invariant bs d F

pub loop-term-preserved : goal.loop-term-preserved
loop-term-preserved c = λ bs d F. texts_more (entries bs) _ c.loop-term.term-index (omega arith) (sym (c.has_text.ensures bs d F) ∙ c.if-not-has_text.false) ∙ c.loop-term.invariant bs d F

pub returns : goal.returns
returns c = λ bs d F. sym (texts_end (entries bs) _ c.loop-term.term-index (omega arith)) ∙ c.loop-term.invariant bs d F
