use Prim.Native.Nat.{◌+◌, ◌-◌}
use mathlib.Core.Path.{◌≡◌, sym, ◌∙◌}
use native.Mathlib.Nat.{sub-zero}
use native.Mathlib.Omega.{arith}
use Rattle.delivery_format.proofs.Walk.{fields_end_more, fields_end_none}
use Rattle.delivery_walk.proofs.fields_end.Goals as goal

pub loop-init : goal.loop-init
loop-init c = (rw sub-zero, omega arith)

pub loop-preserved : goal.loop-preserved
loop-preserved c =
    let left : c.args.n - (c.loop.counter + 1) ≡ c.args.n - c.loop.counter - 1 = omega arith in
    (rw left (fields_end_more c.args.bytes.now c.loop.end (c.args.n - c.loop.counter) _ (omega arith) c.field_end-end.ensures.value ∙ c.loop.invariant.0), omega (arith, c.field_end-end.ensures.upper_bound))

pub returns : goal.returns
returns c = sym (fields_end_none c.args.bytes.now c.loop.end (c.args.n - c.loop.counter) (omega arith)) ∙ c.loop.invariant.0
