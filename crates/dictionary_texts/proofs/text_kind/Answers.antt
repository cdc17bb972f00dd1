use Rattle.dictionary_texts.proofs.Reading.{is_token, own-kind}
use Rattle.dictionary_texts.proofs.text_kind.Goals as goal

pub kind_of-requires : goal.kind_of-requires
kind_of-requires c = is_token c.args.text.now c.requires

pub returns : goal.returns
returns c = own-kind c.args.text.now c.requires _ c.kind_of.ensures
