use native.Mathlib.Omega.{arith}
use Rattle.std.specs.declared.cmp.Ordering.{Ordering}
use Rattle.std.specs.declared.cmp.Ordering.TheVariants.{Equal, Greater}
use Rattle.update_raise.proofs.Raise.{last_says}
use Rattle.update_raise.proofs.RaisePass.{code-start, code-higher, code-equal, code-room, code-lower, code_fits, code-end}
use Rattle.update_raise.proofs.raise_all.Goals as goal

pub loop-j-init : goal.loop-j-init
loop-j-init c = code-start _ _ _ _ _ c.requires

pub overflow_sub-i : goal.overflow_sub-i
overflow_sub-i c = omega (arith, (last_says Greater _ _ _ c.in-Greater.ensures).0)

pub overflow_sub-k : goal.overflow_sub-k
overflow_sub-k c = omega (arith, (last_says Greater _ _ _ c.in-Greater.ensures).0)

pub row_at-row-requires : goal.row_at-row-requires
row_at-row-requires c = omega (arith, (last_says Greater _ _ _ c.in-Greater.ensures).0)

pub bounds-supports-i : goal.bounds-supports-i
bounds-supports-i c = omega (arith, (last_says Greater _ _ _ c.in-Greater.ensures).0)

pub put_entry-requires : goal.put_entry-requires
put_entry-requires c = omega (arith, (last_says Greater _ _ _ c.in-Greater.ensures).0)

pub loop-j-smaller-in-Greater : goal.loop-j-smaller-in-Greater
loop-j-smaller-in-Greater c = omega (arith, (last_says Greater _ _ _ c.in-Greater.ensures).0)

pub loop-j-preserved-in-Greater : goal.loop-j-preserved-in-Greater
loop-j-preserved-in-Greater c = code-higher _ _ _ _ _ c.requires c.loop-j.invariant c.loop-j-test.true c.row_from-x.ensures (last_says Greater _ _ _ c.in-Greater.ensures) c.row_at-row.ensures c.put_entry.ensures

pub overflow_sub-i-in-Equal : goal.overflow_sub-i-in-Equal
overflow_sub-i-in-Equal c = omega (arith, (last_says Equal _ _ _ c.in-Equal.ensures).0)

pub overflow_sub-k-in-Equal : goal.overflow_sub-k-in-Equal
overflow_sub-k-in-Equal c = omega (arith, (last_says Equal _ _ _ c.in-Equal.ensures).0)

pub bounds-supports-i-in-Equal : goal.bounds-supports-i-in-Equal
bounds-supports-i-in-Equal c = omega (arith, (last_says Equal _ _ _ c.in-Equal.ensures).0)

pub overflow_add-support : goal.overflow_add-support
overflow_add-support c = let l = last_says Equal _ _ _ c.in-Equal.ensures in
    omega (arith, code_fits _ _ _ _ _ c.requires c.loop-j.invariant l.0)

pub put_entry-requires-in-Equal : goal.put_entry-requires-in-Equal
put_entry-requires-in-Equal c = omega (arith, (last_says Equal _ _ _ c.in-Equal.ensures).0)

pub loop-j-smaller-in-Equal : goal.loop-j-smaller-in-Equal
loop-j-smaller-in-Equal c = omega (arith, (last_says Equal _ _ _ c.in-Equal.ensures).0)

pub loop-j-preserved-in-Equal : goal.loop-j-preserved-in-Equal
loop-j-preserved-in-Equal c = code-equal _ _ _ _ _ c.requires c.loop-j.invariant c.loop-j-test.true c.row_from-x.ensures (last_says Equal _ _ _ c.in-Equal.ensures) c.put_entry-in-Equal.ensures

pub overflow_sub-k-in-Less : goal.overflow_sub-k-in-Less
overflow_sub-k-in-Less c = let l = code-room _ _ _ _ _ c.requires c.loop-j.invariant c.loop-j-test.true c.row_from-x.ensures (last_says Ordering.Less _ _ _ c.in-Less.ensures) in omega arith

pub put_entry-requires-in-Less : goal.put_entry-requires-in-Less
put_entry-requires-in-Less c = let l = code-room _ _ _ _ _ c.requires c.loop-j.invariant c.loop-j-test.true c.row_from-x.ensures (last_says Ordering.Less _ _ _ c.in-Less.ensures) in omega arith

pub loop-j-preserved : goal.loop-j-preserved
loop-j-preserved c = code-lower _ _ _ _ _ c.requires c.loop-j.invariant c.loop-j-test.true c.row_from-x.ensures (last_says Ordering.Less _ _ _ c.in-Less.ensures) c.put_entry-in-Less.ensures

pub returns : goal.returns
returns c = code-end _ _ _ _ _ c.requires c.loop-j.invariant c.loop-j-test.false
