use Rattle.spec_ntriples.specs.Characters.{is_pn_chars_u, is_one_of, codes}
use Rattle.ntriples_chars.proofs.Testing.{or-false}
use Rattle.ntriples_chars.proofs.is_pn_chars_u.Goals as goal

-- src/chars.rt:97:1
pub returns : goal.returns
unfolding is_pn_chars_u is_one_of codes
returns c = rw c.is_pn_chars_base.ensures (simp or-false)
