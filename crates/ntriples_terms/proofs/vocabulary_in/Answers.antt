use Prim.Native.Nat.{◌-◌}
use Rattle.spec_ntriples.specs.Dictionary.{vocabulary_of}
use Rattle.ntriples_terms.proofs.Rows.{subject_token, property_token, object_token, by_words}
use Rattle.ntriples_terms.proofs.vocabulary_in.Goals as goal

-- src/lib.rt:49:18
pub vocabulary_of-requires : goal.vocabulary_of-requires
vocabulary_of-requires c = subject_token c.args.line.now c.args.k c.requires

-- src/lib.rt:50:19
pub vocabulary_of-requires-2 : goal.vocabulary_of-requires-2
vocabulary_of-requires-2 c = property_token c.args.line.now c.args.k c.requires

-- src/lib.rt:51:17
pub vocabulary_of-requires-3 : goal.vocabulary_of-requires-3
vocabulary_of-requires-3 c = object_token c.args.line.now c.args.k c.requires

-- src/lib.rt:44:1
pub returns : goal.returns
returns c = λ t H. by_words vocabulary_of t _ _ _ (c.vocabulary_of.ensures t.subject H.subject) (c.vocabulary_of-2.ensures t.property H.property) (c.vocabulary_of-3.ensures t.object H.object)
