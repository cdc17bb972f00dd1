use native.Mathlib.Omega.{arith}
use Rattle.ntriples_copy.specs.inside.Vocabulary.{vocabulary_text}
use Rattle.ntriples_room.proofs.Putting.{text_none, text-put}
use Rattle.ntriples_room.proofs.put_vocabulary.Goals as goal

-- src/lib.rt:48:9
pub returns-then-out-at : goal.returns-then-out-at
returns-then-out-at c = text_none c.args.out.now _ (vocabulary_text c.args.term) c.args.at _ c.vocabulary_length-size.ensures c.requires.at_in_bounds (omega arith)

-- src/lib.rt:41:1
pub returns : goal.returns
returns c = text-put c.args.out.now _ (vocabulary_text c.args.term) c.args.at _ c.write_vocabulary.ensures c.vocabulary_length-size.ensures c.requires.at_in_bounds (omega arith)
