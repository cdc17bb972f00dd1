use native.Mathlib.Omega.{arith}
use Rattle.spec.specs.Tables.{row_at}
use Rattle.rdfs_reach.proofs.MarkLaws.{block-place, block_more, block-end, block_stops}
use Rattle.rdfs_reach.proofs.append_block.Goals as goal

pub returns-then-not-has_subject : goal.returns-then-not-has_subject
returns-then-not-has_subject c = block-end c.args.st.now _ _ _ _ c.args.used.now c.args.found.now _ c.loop-j.used c.loop-j.found _ _ c.loop-j.invariant c.requires.room c.requires.begins
    (block_stops c.args.st.now _ _ _ _ _ c.requires.statements c.requires.begins c.loop-j.invariant.low c.loop-j-test.true
    (c.has_subject.ensures.if_false c.if-not-has_subject.true))

pub bounds-found-e : goal.bounds-found-e
bounds-found-e c = let p =
    block-place c.args.st.now _ _ _ _ c.args.used.now c.args.found.now _ c.loop-j.used c.loop-j.found _ _ c.loop-j.invariant c.requires.room
    c.loop-j-test.true (c.has_subject.ensures.if_true c.if-not-has_subject.false) c.requires.by_index in
    omega (arith, p, c.loop-j.invariant.count, c.loop-j.invariant.low)

pub loop-j-preserved : goal.loop-j-preserved
unfolding row_at
loop-j-preserved c = block_more c.args.st.now _ _ _ _ c.args.used.now c.args.found.now _ c.loop-j.used c.loop-j.found _ _ c.loop-j.invariant c.requires.room
    c.loop-j-test.true (c.has_subject.ensures.if_true c.if-not-has_subject.false) c.requires.by_index

pub returns : goal.returns
returns c = block-end c.args.st.now _ _ _ _ c.args.used.now c.args.found.now _ c.loop-j.used c.loop-j.found _ _ c.loop-j.invariant c.requires.room c.requires.begins
    (λ i a l h. absurd (omega arith))
