use Rattle.spec_ntriples.specs.Characters.{is_string_char, is_one_of, codes}
use Rattle.ntriples_chars.proofs.Testing.{or-false}
use Rattle.ntriples_chars.proofs.is_string_char.Goals as goal

-- src/chars.rt:71:1
pub returns : goal.returns
unfolding is_string_char is_one_of codes
returns c = simp or-false
