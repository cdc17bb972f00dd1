use mathlib.Core.Path.{◌≡◌}
use Prim.Native.Nat.{◌+◌}
use native.Mathlib.Omega.{arith}
use lib.ListN.{get_or}
use Rattle.saturate_counts.proofs.Adding.{other_bit_lem, part-length, part_at, summed_none, summed_more, summed_few}
use Rattle.saturate_counts.proofs.count_object.Goals as goal

pub loop-y-init : goal.loop-y-init
loop-y-init c = let e : c.args.own.from + 0 ≡ c.args.own.from = omega arith in rw e (summed_none _ _ _ _)

pub count_other-requires : goal.count_other-requires
count_other-requires c =
    let l = part-length c.args.ix.now c.args.own.from c.args.own.to c.requires.from_le_to.0 c.requires.from_le_to.1 in
    let e = part_at c.args.ix.now c.args.own.from c.args.own.to c.requires.from_le_to.0 c.requires.from_le_to.1 c.loop-y.y-index c.loop-y-test.true in
    record {
      statements = c.requires.statements;
      square = c.requires.square;
      y_in_bounds = (omega (arith, e, l, c.requires.by_index (c.args.own.from + c.loop-y.y-index) (omega (arith, l))));
      by_index = λ k u. omega (arith, l, c.requires.by_index_2 k u, summed_few _ _ _ _ _ _ c.loop-y.invariant (omega arith) (λ q z lq _ _. other_bit_lem c.args.statements.now c.args.sizes.statements c.args.sizes.classes c.args.sizes.columns c.args.ranges.now c.args.ranges.now c.args.f.now c.args.own.term (get_or c.args.ix.now z 0) c.requires.square c.requires.square q (omega arith)) k u);
    }

pub loop-y-preserved : goal.loop-y-preserved
loop-y-preserved c =
    let e = part_at c.args.ix.now c.args.own.from c.args.own.to c.requires.from_le_to.0 c.requires.from_le_to.1 c.loop-y.y-index c.loop-y-test.true in
    let s : c.args.own.from + (c.loop-y.y-index + 1) ≡ c.args.own.from + c.loop-y.y-index + 1 = omega arith in
    rw s (summed_more _ _ _ _ _ _ _ c.loop-y.invariant (rw e at c.count_other.ensures))

pub returns : goal.returns
returns c =
    let l = part-length c.args.ix.now c.args.own.from c.args.own.to c.requires.from_le_to.0 c.requires.from_le_to.1 in
    let q : c.args.own.from + c.loop-y.y-index ≡ c.args.own.to = omega (arith, l) in
    rw q at c.loop-y.invariant
