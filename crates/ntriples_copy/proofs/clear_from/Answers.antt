use Prim.Native.Nat.{ℕ, ◌-◌}
use native.Mathlib.Omega.{arith}
use lib.ListN.{length, drop, replicate, length-drop, length-replicate}
use lib.Seq.{length-take-le}
use Rattle.ntriples_text.proofs.Writing.{part_sets}
use Rattle.ntriples_copy.proofs.clear_from.Goals as goal

pub returns : goal.returns
returns c =
    let m = length-take-le (length c.args.out.now - c.args.at) (drop c.args.at c.args.out.now) (omega (arith, length-drop c.args.at c.args.out.now)) in
    part_sets c.args.out.now (replicate (length c.args.out.now - c.args.at) 0) _ c.args.at _ (rw m at (c.fill.ensures.after (λ y e. e)))
    (omega (arith, length-replicate {A = ℕ} (length c.args.out.now - c.args.at) 0)) (omega arith)
