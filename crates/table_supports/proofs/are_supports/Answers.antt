use Prim.Native.Nat.{◌<◌}
use mathlib.Core.Path.{sym, ◌∙◌}
use native.Mathlib.Omega.{arith}
use lib.ListN.{get_or, take}
use lib.Seq.{get_or-take, length-take-le}
use Rattle.spec.specs.Tables.{is_support}
use Rattle.spec.proofs.TableAll.{all_end}
use Rattle.table_zeros.proofs.Folds.{fold_end}
use Rattle.table_supports.proofs.Tests.{support_fold}
use Rattle.table_supports.proofs.are_supports.Goals as goal

pub loop-support-preserved : goal.loop-support-preserved
loop-support-preserved c =
    let i = c.loop-support.support-index in
    let within : i < c.args.n = omega (arith, length-take-le c.args.n c.args.u.now c.requires) in
    let fits : get_or (take c.args.n c.args.u.now) i 0 < 65536 = rw (get_or-take c.args.n c.args.u.now i 0 within) (omega (arith, c.type_inv.u i)) in
    c.loop-support.invariant ∙ support_fold c.args.facts _ (take c.args.n c.args.u.now) c.loop-support.ok i c.loop-support-test.true (c.highest_support-highest.ensures (get_or (take c.args.n c.args.u.now) i 0) fits)

pub returns : goal.returns
returns c = sym (c.loop-support.invariant ∙ fold_end c.loop-support.ok (all_end (is_support c.args.facts) (take c.args.n c.args.u.now) c.loop-support.support-index c.loop-support-test.false))
