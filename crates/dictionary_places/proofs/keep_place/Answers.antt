use native.Mathlib.Omega.{arith}
use Rattle.spec.specs.Terms.{kind}
use Rattle.dictionary_ranks.proofs.Slots.{stride-some}
use Rattle.dictionary_places.proofs.Keeping.{place_kept, place_left}
use Rattle.dictionary_places.proofs.keep_place.Goals as goal

-- src/lib.rt:22:8
pub nonzero_rem-rank_of : goal.nonzero_rem-rank_of
nonzero_rem-rank_of c = omega (arith, stride-some c.args.f (kind c.args.term), c.stride_of.ensures)

-- src/lib.rt:22:1
pub returns-then-rank_of-stride_of-eq0 : goal.returns-then-rank_of-stride_of-eq0
returns-then-rank_of-stride_of-eq0 c = place_kept c.args.f c.args.places.now c.args.term c.args.at c.rank_of.result c.stride_of.result c.slot_for-s.result c.rank_of.ensures c.stride_of.ensures c.slot_for-s.ensures.0 c.if-rank_of-stride_of-eq0.true

-- src/lib.rt:22:1
pub returns-else-rank_of-stride_of-eq0 : goal.returns-else-rank_of-stride_of-eq0
returns-else-rank_of-stride_of-eq0 c = place_left c.args.f c.args.places.now c.args.term c.args.at c.rank_of.result c.stride_of.result c.rank_of.ensures c.stride_of.ensures c.if-rank_of-stride_of-eq0.false
