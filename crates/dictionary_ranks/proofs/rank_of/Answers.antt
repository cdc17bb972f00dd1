use native.Mathlib.Omega.{arith}
use Rattle.dictionary_ranks.specs.inside.Ranks.{rank_of}
use Rattle.dictionary_ranks.proofs.rank_of.Goals as goal

-- src/lib.rt:65:1
pub returns : goal.returns
unfolding rank_of
returns c = omega arith
