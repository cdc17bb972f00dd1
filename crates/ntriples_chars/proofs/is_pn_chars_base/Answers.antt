use Rattle.spec_ntriples.specs.Characters.{is_pn_chars_base}
use Rattle.ntriples_chars.proofs.is_pn_chars_base.Goals as goal

-- src/chars.rt:78:1
pub returns : goal.returns
unfolding is_pn_chars_base
returns c = rw c.is_letter.ensures
