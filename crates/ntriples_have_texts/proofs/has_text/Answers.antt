use mathlib.Core.Path.{sym, ◌∙◌}
use Rattle.spec_ntriples.specs.Dictionary.{entries}
use Rattle.ntriples_copy.proofs.Vocabulary.{vocabulary_has, entry_has}
use Rattle.ntriples_have_texts.proofs.has_text.Goals as goal

pub returns-then-is_vocabulary : goal.returns-then-is_vocabulary
returns-then-is_vocabulary c = λ bs d F. vocabulary_has (entries bs) c.args.term (sym c.is_vocabulary.ensures ∙ c.if-is_vocabulary.true)

pub returns : goal.returns
returns c = λ bs d F. c.has_entry.ensures bs d F ∙ entry_has (entries bs) c.args.term (sym c.is_vocabulary.ensures ∙ c.if-is_vocabulary.false)
