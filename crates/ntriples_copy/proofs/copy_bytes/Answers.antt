use Prim.Native.Nat.{ℕ, ◌+◌}
use mathlib.Core.Path.{◌≡◌, refl, ap, ◌∙◌}
use mathlib.Core.List.{List}
use native.Mathlib.Omega.{arith}
use lib.ListN.{length, get_or, take, drop, set}
use lib.Seq.{length-sets}
use Rattle.ntriples_copy.proofs.Copying.{copy_more}
use Rattle.ntriples_copy.proofs.copy_bytes.Goals as goal

pub loop-k-init : goal.loop-k-init
loop-k-init c = refl

pub bounds-out-at : goal.bounds-out-at
bounds-out-at c = omega (arith, ap length c.loop-k.invariant, length-sets c.args.out.now c.args.at (take c.loop-k.k (drop c.args.from c.args.bytes.now)))

pub loop-k-preserved : goal.loop-k-preserved
loop-k-preserved c = ap (λ (o : List ℕ). set o (c.args.at + c.loop-k.k) (get_or c.args.bytes.now (c.args.from + c.loop-k.k) 0)) c.loop-k.invariant ∙ copy_more c.args.out.now c.args.bytes.now c.args.at c.args.from c.args.n c.loop-k.k (omega arith) (omega arith)

pub returns : goal.returns
returns c = let e : c.loop-k.k ≡ c.args.n = omega arith in rw e at c.loop-k.invariant
