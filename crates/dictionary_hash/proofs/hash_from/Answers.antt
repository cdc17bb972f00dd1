use Prim.Native.Nat.{◌+◌, ◌-◌}
use mathlib.Core.Path.{◌≡◌, sym, ◌∙◌}
use native.Mathlib.Omega.{arith}
use Rattle.dictionary_hash.proofs.Hashing.{hash_more, hash_end}
use borrow.Author.Rules.{rules}
use Rattle.dictionary_hash.proofs.hash_from.Goals as goal

pub loop-b-preserved : goal.loop-b-preserved
loop-b-preserved c = (c.hash_on-h.ensures.upper_bound, c.loop-b.invariant.1 ∙ hash_more _ c.loop-b.b-index c.loop-b.h (search rules) ∙ rw c.hash_on-h.ensures.value)

pub returns-clause-value : goal.returns-clause-value
returns-clause-value c = let e : c.args.at + c.args.n - c.args.at ≡ c.args.n = omega arith in rw (sym e) (sym (c.loop-b.invariant.1 ∙ hash_end _ c.loop-b.b-index c.loop-b.h (search rules)))
