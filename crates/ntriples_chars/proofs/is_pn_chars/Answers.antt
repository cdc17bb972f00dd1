use Rattle.spec_ntriples.specs.Characters.{is_pn_chars}
use Rattle.ntriples_chars.proofs.is_pn_chars.Goals as goal

-- src/chars.rt:104:1
pub returns : goal.returns
unfolding is_pn_chars
returns c = rw (c.is_pn_chars_u.ensures, c.is_digit.ensures)
