use mathlib.Core.Path.{refl, sym, ◌∙◌}
use Prim.Native.Nat.{◌-◌, ◌<◌}
use native.Mathlib.Omega.{arith}
use lib.ListN.{get_or}
use Rattle.saturate_merge.specs.inside.Streams.{objects, front_of}
use Rattle.saturate_merge.proofs.Streams.{front_none, front-some}
use Rattle.saturate_counted.proofs.Counting.{counting_start, key_low, key_at-at, at_left, at_right, at_pass, at_both, at_small, at_small_both, at_keys, at_end}
use borrow.Author.Rules.{rules}
use Rattle.saturate_counted.proofs.merge_counted.Goals as goal
use Rattle.saturate_counted.proofs.merge_counted.Goals.{then-c-gt0-2, else-c-gt0-2}

pub loop-q-init : goal.loop-q-init
loop-q-init c = (search rules, counting_start _ _ _ _ _ _ c.requires.rising c.requires.keys_rising c.requires.by_index)

pub loop-q-preserved-then-wide-cs : goal.loop-q-preserved-then-wide-cs
loop-q-preserved-then-wide-cs c = (omega arith, at_left _ _ _ _ _ _ _ _ _ _ _ _ _ _ _ _ c.loop-q.invariant.1 c.loop-q-test.true c.object_at-ce.ensures (omega (arith, c.key_at-cs.ensures, c.wide.ensures.0, c.if-wide-cs.true)) c.put-n.ensures)

pub bounds-counts-r : goal.bounds-counts-r
bounds-counts-r c = let lt : c.loop-q.r < c.args.end = key_low _ _ _ _ _ c.key_at-cs.ensures c.if-wide-cs.false c.wide.ensures.1 in omega arith

pub bounds-keys-r : goal.bounds-keys-r
bounds-keys-r c = let lt : c.loop-q.r < c.args.end = key_low _ _ _ _ _ c.key_at-cs.ensures c.if-wide-cs.false c.wide.ensures.1 in omega arith

pub overflow_add-c : goal.overflow_add-c
overflow_add-c c = let lt : c.loop-q.r < c.args.end = key_low _ _ _ _ _ c.key_at-cs.ensures c.if-wide-cs.false c.wide.ensures.1 in omega (arith, at_small_both _ _ _ _ _ _ _ _ _ _ _ _ _ _ c.loop-q.invariant.1 c.loop-q-test.true lt (sym c.object_at-ce.ensures ∙ sym c.if-k-ce.true))

pub overflow_cast-c : goal.overflow_cast-c
overflow_cast-c c = let lt : c.loop-q.r < c.args.end = key_low _ _ _ _ _ c.key_at-cs.ensures c.if-wide-cs.false c.wide.ensures.1 in omega (arith, at_small_both _ _ _ _ _ _ _ _ _ _ _ _ _ _ c.loop-q.invariant.1 c.loop-q-test.true lt (sym c.object_at-ce.ensures ∙ sym c.if-k-ce.true))

pub loop-q-smaller-then-k-ce : goal.loop-q-smaller-then-k-ce
loop-q-smaller-then-k-ce c = let lt : c.loop-q.r < c.args.end = key_low _ _ _ _ _ c.key_at-cs.ensures c.if-wide-cs.false c.wide.ensures.1 in omega arith

pub loop-q-preserved-then-k-ce : goal.loop-q-preserved-then-k-ce
loop-q-preserved-then-k-ce c = let lt : c.loop-q.r < c.args.end = key_low _ _ _ _ _ c.key_at-cs.ensures c.if-wide-cs.false c.wide.ensures.1 in (omega arith, at_both _ _ _ _ _ _ _ _ _ _ _ _ _ _ _ _ c.loop-q.invariant.1 c.loop-q-test.true lt c.object_at-ce.ensures (sym c.if-k-ce.true) c.put-n-then-k-ce.ensures)

pub overflow_cast-c-then-c-gt0 : goal.overflow_cast-c-then-c-gt0
overflow_cast-c-then-c-gt0 c = let lt : c.loop-q.r < c.args.end = key_low _ _ _ _ _ c.key_at-cs.ensures c.if-wide-cs.false c.wide.ensures.1 in omega (arith, at_small _ _ _ _ _ _ _ _ _ _ _ _ _ _ c.loop-q.invariant.1 lt)

pub loop-q-smaller-then-c-gt0 : goal.loop-q-smaller-then-c-gt0
loop-q-smaller-then-c-gt0 c = let lt : c.loop-q.r < c.args.end = key_low _ _ _ _ _ c.key_at-cs.ensures c.if-wide-cs.false c.wide.ensures.1 in omega arith

pub loop-q-preserved-then-c-gt0 : goal.loop-q-preserved-then-c-gt0
loop-q-preserved-then-c-gt0 c = let lt : c.loop-q.r < c.args.end = key_low _ _ _ _ _ c.key_at-cs.ensures c.if-wide-cs.false c.wide.ensures.1 in let kb : get_or c.args.keys.now c.loop-q.r 0 < front_of (objects c.args.f.now c.loop-q.q (c.args.own.to - c.loop-q.q)) = rw (front-some c.args.f.now c.loop-q.q c.args.own.to c.loop-q-test.true, ← c.object_at-ce.ensures) (omega (arith, c.if-k-ce.false, key_at-at c.args.keys.now c.loop-q.r c.args.end lt)) in (omega arith, at_right _ _ _ _ _ _ _ _ _ _ _ _ _ _ _ _ c.loop-q.invariant.1 lt refl kb c.if-c-gt0.true c.put-n-then-c-gt0.ensures)

pub loop-q-smaller : goal.loop-q-smaller
loop-q-smaller c = let lt : c.loop-q.r < c.args.end = key_low _ _ _ _ _ c.key_at-cs.ensures c.if-wide-cs.false c.wide.ensures.1 in omega arith

pub loop-q-preserved : goal.loop-q-preserved
loop-q-preserved c = let lt : c.loop-q.r < c.args.end = key_low _ _ _ _ _ c.key_at-cs.ensures c.if-wide-cs.false c.wide.ensures.1 in let kb : get_or c.args.keys.now c.loop-q.r 0 < front_of (objects c.args.f.now c.loop-q.q (c.args.own.to - c.loop-q.q)) = rw (front-some c.args.f.now c.loop-q.q c.args.own.to c.loop-q-test.true, ← c.object_at-ce.ensures) (omega (arith, c.if-k-ce.false, key_at-at c.args.keys.now c.loop-q.r c.args.end lt)) in (omega arith, at_pass _ _ _ _ _ _ _ _ _ _ _ _ _ _ _ c.loop-q.invariant.1 lt refl kb (omega (arith, c.if-c-gt0.false)))

pub loop-i-init : goal.loop-i-init
loop-i-init c = c.loop-q.invariant.1

pub overflow_cast-c-then-c-gt0-2 : goal.overflow_cast-c-then-c-gt0-2
overflow_cast-c-then-c-gt0-2 c = omega (arith, at_small _ _ _ _ _ _ _ _ _ _ _ _ _ _ c.loop-i.invariant (omega arith))

pub loop-i-preserved : goal.loop-i-preserved
loop-i-preserved c =
    let lt : c.loop-i.i < c.args.end = omega arith in
    let kb : get_or c.args.keys.now c.loop-i.i 0 < front_of (objects c.args.f.now c.loop-q.q (c.args.own.to - c.loop-q.q)) = rw (front_none c.args.f.now c.loop-q.q c.args.own.to c.loop-q-test.false) (at_keys _ _ _ _ _ _ _ _ _ _ _ _ _ _ c.loop-i.invariant lt) in
    elim c.if-c-gt0-2.branch [
      | then-c-gt0-2 w ↦ rw (w.kept-is, w.supports-is, w.n-is) (at_right _ _ _ _ _ _ _ _ _ _ _ _ _ _ _ _ c.loop-i.invariant lt refl kb w.if-c-gt0-2.true w.put-n-then-c-gt0-2.ensures)
      | else-c-gt0-2 w ↦ rw (w.kept-is, w.supports-is, w.n-is) (at_pass _ _ _ _ _ _ _ _ _ _ _ _ _ _ _ c.loop-i.invariant lt refl kb (omega arith))
    ]

pub returns : goal.returns
returns c = at_end _ _ _ _ _ _ _ _ _ _ _ _ _ _ c.loop-i.invariant c.loop-q-test.false (omega arith)
