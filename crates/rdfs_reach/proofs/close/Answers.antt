use Prim.Native.Nat.{◌<◌}
use mathlib.Core.Path.{refl, ◌≡◌}
use native.Mathlib.Omega.{arith}
use Rattle.rdfs_reach.proofs.WorkLaws.{turn_begin, turn_more, reached_begin, reached_more, close_end}
use borrow.Author.Rules.{rules}
use Rattle.rdfs_reach.proofs.close.Goals as goal

pub loop-i-init : goal.loop-i-init
loop-i-init c = (search rules, turn_begin c.args.st.now _ _ _ c.args.used.now c.args.found.now _ c.requires.room, reached_begin c.args.st.now _ _ _ c.args.found.now _)

pub loop-i-preserved : goal.loop-i-preserved
loop-i-preserved c = let h : c.loop-i.i < c.loop-i.e = omega (arith, c.loop-i-test.true, c.loop-i.invariant.1.done.grown.grows) in (
  omega (arith, c.append_objects-e.ensures.grown.grows),
  turn_more c.loop-i.invariant.1 _ refl h c.append_objects-e.ensures c.append_objects-e.auto.used c.append_objects-e.auto.found,
  reached_more _ refl c.loop-i.invariant.1.low h c.loop-i.invariant.2 c.append_objects-e.ensures,
)

pub returns-clause-by_index : goal.returns-clause-by_index
returns-clause-by_index c = let q : c.loop-i.i ≡ c.loop-i.e = omega arith in
    close_end c.requires.from_le_n c.requires.unused (rw q at c.loop-i.invariant.1) c.loop-i.invariant.2
