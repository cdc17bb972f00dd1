use mathlib.Core.Path.{sym, ◌∙◌}
use Rattle.spec_ntriples.specs.Dictionary.{entries}
use Rattle.ntriples_copy.proofs.Vocabulary.{vocabulary_bounds, text_vocabulary, text-entry, has-entry}
use Rattle.ntriples_rows.proofs.put_term.Goals as goal

-- src/lib.rt:45:9
pub put_vocabulary-requires : goal.put_vocabulary-requires
put_vocabulary-requires c = record { le_term = vocabulary_bounds c.args.term (sym c.is_vocabulary.ensures ∙ c.if-is_vocabulary.true); at_in_bounds = c.requires.at_in_bounds }

-- src/lib.rt:45:9
pub returns-then-is_vocabulary : goal.returns-then-is_vocabulary
returns-then-is_vocabulary c = rw (text_vocabulary (entries c.args.dictionary.now) c.args.term (sym c.is_vocabulary.ensures ∙ c.if-is_vocabulary.true)) c.put_vocabulary.ensures

-- src/lib.rt:47:27
pub place_of-requires : goal.place_of-requires
place_of-requires c = record { are_places = c.requires.are_places; nonzero = has-entry (entries c.args.dictionary.now) c.args.term (sym c.is_vocabulary.ensures ∙ c.if-is_vocabulary.false) c.requires.term_value }

-- src/lib.rt:30:1
pub returns : goal.returns
returns c = rw (text-entry (entries c.args.dictionary.now) c.args.term (sym c.is_vocabulary.ensures ∙ c.if-is_vocabulary.false), ← c.place_of.ensures.1) c.put_entry.ensures
