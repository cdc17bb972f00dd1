use mathlib.Core.Path.{refl}
use Rattle.spec_ntriples.specs.Utf8.{is_scalar}
use Rattle.ntriples_chars.proofs.is_scalar.Goals as goal

-- src/chars.rt:15:1
pub returns : goal.returns
unfolding is_scalar
returns c = refl
