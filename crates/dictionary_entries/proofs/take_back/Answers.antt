use Prim.Native.Nat.{◌≤◌}
use mathlib.Core.Path.{◌≡◌}
use native.Mathlib.Omega.{arith}
use Rattle.dictionary_entries.proofs.Standing.{entries-length}
use Rattle.dictionary_entries.proofs.Writing.{zeros_over, held-less}
use Rattle.dictionary_entries.proofs.take_back.Goals as goal

pub returns : goal.returns
returns c = λ ds fs H p.
    let h : c.args.from ≤ c.args.end = omega (arith, p, H.ends, entries-length ds fs) in
    let m : c.min.result ≡ c.args.from = omega (arith, c.min.ensures) in
    rw (zeros_over _ _ _ c.args.from c.args.end m h c.requires (c.fill.ensures.after (λ y e. e))) (held-less _ _ _ ds fs H p)
