use native.Mathlib.Omega.{arith}
use Rattle.spec.specs.Terms.{kind}
use Rattle.dictionary_ranks.proofs.Slots.{stride-some, slot_by}
use Rattle.dictionary_ranks.proofs.slot_for.Goals as goal

-- src/lib.rt:86:30
pub nonzero_div-result : goal.nonzero_div-result
nonzero_div-result c = omega (arith, stride-some c.args.f (kind c.args.term))

-- src/lib.rt:86:5
pub overflow_add-result : goal.overflow_add-result
overflow_add-result c = omega (arith, (slot_by c.args.f c.args.term c.rank_of.result c.stride_of.result c.requires c.rank_of.ensures c.stride_of.ensures).1)

-- src/lib.rt:81:1
pub returns : goal.returns
returns c = slot_by c.args.f c.args.term c.rank_of.result c.stride_of.result c.requires c.rank_of.ensures c.stride_of.ensures
