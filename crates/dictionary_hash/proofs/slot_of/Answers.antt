use mathlib.Core.Path.{refl}
use Rattle.dictionary_hash.specs.inside.Hashes.{slot_of}
use Rattle.dictionary_hash.proofs.slot_of.Goals as goal

pub returns : goal.returns
unfolding slot_of
returns c = refl
