use Rattle.dictionary_texts.proofs.Reading.{is_token, own_vocabulary, no_vocabulary}
use Rattle.dictionary_texts.proofs.is_no_vocabulary.Goals as goal

pub returns-then-text : goal.returns-then-text
returns-then-text c = no_vocabulary c.args.text.now c.if-text.true

pub vocabulary_of-requires : goal.vocabulary_of-requires
vocabulary_of-requires c = is_token c.args.text.now c.requires

pub returns : goal.returns
returns c = own_vocabulary c.args.text.now c.requires _ c.vocabulary_of.ensures
