use Rattle.spec_ntriples.specs.Characters.{is_one_of, codes}
use Rattle.ntriples_chars.proofs.Testing.{or-false}
use Rattle.ntriples_chars.proofs.is_barred.Goals as goal

-- src/chars.rt:50:1
pub returns : goal.returns
unfolding is_one_of codes
returns c = simp or-false
