-- The part that the word takes holds it. Assumes nothing.
use Prim.Native.Nat.{◌+◌, ◌-◌}
use mathlib.Core.Path.{◌≡◌, refl}
use native.Mathlib.Omega.{arith}
use lib.ListN.{length}
use Rattle.report_text.proofs.Appending.{part_appended}
use Rattle.report_text.proofs.write_word.Goals as goal

pub returns : goal.returns
returns c =
    let k : c.args.at + length c.args.word.now - c.args.at ≡ length c.args.word.now = omega arith in
    rw (c.copy_from_slice.ensures.after, k) (part_appended c.args.word.now c.args.out.now c.args.at (length c.args.word.now) refl c.requires)
