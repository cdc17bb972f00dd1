use Prim.Native.Nat.{◌+◌, ◌-◌, ◌*◌}
use mathlib.Core.Path.{◌≡◌, sym, ◌∙◌}
use native.Mathlib.Omega.{arith}
use Rattle.spec.proofs.TableAll.{answered}
use Rattle.delivery_format.specs.inside.Sections.{is_right_in}
use Rattle.delivery_format.proofs.Walk.{entries_more, entries_stop, entries_end}
use Rattle.delivery_format.proofs.are_entries_right.Goals as goal

pub loop-i-init : goal.loop-i-init
loop-i-init c = let a : c.args.at ≡ c.args.at + 0 * 12 = omega arith in let n : c.args.n ≡ c.args.n - 0 = omega arith in rw (← a, ← n)

pub returns-then-not-is_right_in : goal.returns-then-not-is_right_in
returns-then-not-is_right_in c = sym (c.loop-i.invariant ∙ entries_stop (is_right_in c.args.statements) c.args.bytes.now _ _ (omega arith) (answered (is_right_in c.args.statements) c.entry_at.ensures c.is_right_in.ensures c.if-not-is_right_in.true))

pub loop-i-preserved : goal.loop-i-preserved
loop-i-preserved c =
    let at : c.args.at + c.loop-i.i * 12 + 12 ≡ c.args.at + (c.loop-i.i + 1) * 12 = omega arith in
    let left : c.args.n - c.loop-i.i - 1 ≡ c.args.n - (c.loop-i.i + 1) = omega arith in
    rw (← at, ← left) (c.loop-i.invariant ∙ entries_more (is_right_in c.args.statements) c.args.bytes.now _ _ (omega arith) (answered (is_right_in c.args.statements) c.entry_at.ensures c.is_right_in.ensures c.if-not-is_right_in.false))

pub returns : goal.returns
returns c = sym (c.loop-i.invariant ∙ entries_end (is_right_in c.args.statements) c.args.bytes.now _ _ (omega arith))
