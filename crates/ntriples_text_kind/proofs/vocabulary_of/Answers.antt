use mathlib.Core.Path.{sym, ◌∙◌}
use Rattle.spec_ntriples.specs.Characters.{codes}
use Rattle.ntriples_text_kind.proofs.Vocabulary.{place_one, place_two, place_three, place_four, place_five, place_none}
use Rattle.ntriples_text_kind.proofs.vocabulary_of.Goals as goal

pub returns-then-is_text : goal.returns-then-is_text
unfolding codes
returns-then-is_text c = λ t H. place_one t.bytes _ _ _ _ _ (sym (c.is_text.ensures t H) ∙ c.if-is_text.true)

pub returns-then-is_text-2 : goal.returns-then-is_text-2
unfolding codes
returns-then-is_text-2 c = λ t H. place_two t.bytes _ _ _ _ _ (sym (c.is_text.ensures t H) ∙ c.if-is_text.false) (sym (c.is_text-2.ensures t H) ∙ c.if-is_text-2.true)

pub returns-then-is_text-3 : goal.returns-then-is_text-3
unfolding codes
returns-then-is_text-3 c = λ t H. place_three t.bytes _ _ _ _ _ (sym (c.is_text.ensures t H) ∙ c.if-is_text.false) (sym (c.is_text-2.ensures t H) ∙ c.if-is_text-2.false) (sym (c.is_text-3.ensures t H) ∙ c.if-is_text-3.true)

pub returns-then-is_text-4 : goal.returns-then-is_text-4
unfolding codes
returns-then-is_text-4 c = λ t H. place_four t.bytes _ _ _ _ _ (sym (c.is_text.ensures t H) ∙ c.if-is_text.false) (sym (c.is_text-2.ensures t H) ∙ c.if-is_text-2.false) (sym (c.is_text-3.ensures t H) ∙ c.if-is_text-3.false) (sym (c.is_text-4.ensures t H) ∙ c.if-is_text-4.true)

pub returns-then-is_text-5 : goal.returns-then-is_text-5
unfolding codes
returns-then-is_text-5 c = λ t H. place_five t.bytes _ _ _ _ _ (sym (c.is_text.ensures t H) ∙ c.if-is_text.false) (sym (c.is_text-2.ensures t H) ∙ c.if-is_text-2.false) (sym (c.is_text-3.ensures t H) ∙ c.if-is_text-3.false) (sym (c.is_text-4.ensures t H) ∙ c.if-is_text-4.false) (sym (c.is_text-5.ensures t H) ∙ c.if-is_text-5.true)

pub returns : goal.returns
unfolding codes
returns c = λ t H. place_none t.bytes _ _ _ _ _ (sym (c.is_text.ensures t H) ∙ c.if-is_text.false) (sym (c.is_text-2.ensures t H) ∙ c.if-is_text-2.false) (sym (c.is_text-3.ensures t H) ∙ c.if-is_text-3.false) (sym (c.is_text-4.ensures t H) ∙ c.if-is_text-4.false) (sym (c.is_text-5.ensures t H) ∙ c.if-is_text-5.false)
