use Prim.Native.Nat.{◌+◌, ◌-◌}
use mathlib.Core.Path.{◌≡◌, refl}
use native.Mathlib.Omega.{arith}
use Rattle.spec_ntriples.specs.Dictionary.{bytes_number}
use Rattle.dictionary_bytes.proofs.Numbers.{bound_more, number_fits, number_more}
use Rattle.dictionary_bytes.proofs.number_at.Goals as goal

pub loop-i-init : goal.loop-i-init
unfolding bytes_number
loop-i-init c = let e : c.args.at + c.args.n - (c.args.at + c.args.n) ≡ 0 = omega arith in rw e (omega arith, refl, omega arith)

pub overflow_mul-number : goal.overflow_mul-number
overflow_mul-number c = omega (arith, number_fits (c.args.at + c.args.n - c.loop-i.i) c.loop-i.number (omega arith) c.loop-i.invariant.2)

pub overflow_add-number : goal.overflow_add-number
overflow_add-number c = omega (arith, number_fits (c.args.at + c.args.n - c.loop-i.i) c.loop-i.number (omega arith) c.loop-i.invariant.2, c.type_inv.bytes (c.loop-i.i - 1))

pub loop-i-preserved : goal.loop-i-preserved
loop-i-preserved c =
    let p : c.loop-i.i - 1 + 1 ≡ c.loop-i.i = omega arith in
    let q : c.args.at + c.args.n - (c.loop-i.i - 1) ≡ c.args.at + c.args.n - c.loop-i.i + 1 = omega arith in
    let h = number_more c.args.bytes.now (c.loop-i.i - 1) (c.args.at + c.args.n - c.loop-i.i) (omega arith) in
    let m = rw p at h in
    rw q (omega arith, cc, bound_more _ _ _ c.loop-i.invariant.2 (omega (arith, c.type_inv.bytes (c.loop-i.i - 1))))
