use mathlib.Core.Path.{◌∙◌, ap}
use native.Mathlib.Omega.{arith}
use lib.ListN.{length}
use Rattle.ntriples_copy.specs.inside.Vocabulary.{vocabulary_text}
use Rattle.ntriples_text.proofs.Writing.{part_sets}
use Rattle.ntriples_copy.proofs.write_vocabulary.Goals as goal

pub returns : goal.returns
returns c =
    part_sets c.args.out.now (vocabulary_text c.args.term) _ c.args.at _ (c.copy_from_slice.ensures.after ∙ c.vocabulary_text-text.ensures)
    (omega (arith, ap length c.vocabulary_text-text.ensures)) (omega (arith, ap length c.vocabulary_text-text.ensures))
