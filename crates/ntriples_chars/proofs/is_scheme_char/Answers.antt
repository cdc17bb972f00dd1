use Rattle.spec_ntriples.specs.Characters.{is_one_of, codes}
use Rattle.ntriples_chars.proofs.Testing.{or-false}
use Rattle.ntriples_chars.proofs.is_scheme_char.Goals as goal

-- src/chars.rt:43:1
pub returns : goal.returns
unfolding is_one_of codes
returns c = rw c.is_letter_or_digit.ensures (simp or-false)
