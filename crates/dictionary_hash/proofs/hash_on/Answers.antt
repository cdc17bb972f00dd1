use mathlib.Core.Path.{refl}
use Rattle.dictionary_hash.specs.inside.Hashes.{hash_on}
use borrow.Author.Rules.{rules}
use Rattle.dictionary_hash.proofs.hash_on.Goals as goal

pub returns : goal.returns
unfolding hash_on
returns c = record { value = refl; upper_bound = search rules }
