use Rattle.spec_ntriples.specs.Characters.{is_iri_char}
use Rattle.ntriples_chars.proofs.is_iri_char.Goals as goal

-- src/chars.rt:64:1
pub returns : goal.returns
unfolding is_iri_char
returns c = rw c.is_barred.ensures
