use native.Mathlib.Omega.{arith}
use Rattle.dictionary_ranks.specs.inside.Ranks.{stride_of}
use Rattle.dictionary_ranks.proofs.stride_of.Goals as goal

-- src/lib.rt:73:1
pub returns : goal.returns
unfolding stride_of
returns c = omega arith
