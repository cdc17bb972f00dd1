use Prim.Native.Nat.{◌+◌, ◌-◌}
use mathlib.Core.Path.{◌≡◌, ◌∙◌}
use native.Mathlib.Omega.{arith}
use Rattle.dictionary_bytes.proofs.Same.{same_slices}
use Rattle.dictionary_bytes.proofs.is_same.Goals as goal

pub returns : goal.returns
returns c =
    let x : c.args.from + c.args.n - c.args.from ≡ c.args.n = omega arith in
    let y : c.args.at + c.args.n - c.args.at ≡ c.args.n = omega arith in
    c.eq.ensures ∙ rw (x, y) (same_slices _ _)
