use Prim.Native.Nat.{◌-◌}
use mathlib.Core.Path.{◌≡◌, refl, sym, ap, ◌∙◌}
use lib.ListN.{length, take, drop, length-drop}
use lib.Seq.{take-length}
use Rattle.spec.specs.Tables.{are_zero}
use Rattle.spec.proofs.TableAll.{zeros_end}
use Rattle.table_zeros.proofs.Folds.{fold_end, zeros_fold}
use borrow.Author.Rules.{rules}
use Rattle.dictionary_check.proofs.are_bytes_zero.Goals as goal

pub loop-b-init : goal.loop-b-init
loop-b-init c = refl

pub loop-b-preserved : goal.loop-b-preserved
loop-b-preserved c = c.loop-b.invariant ∙ zeros_fold c.loop-b.ok _ c.loop-b.b-index (search rules)

pub returns : goal.returns
returns c =
    let t : take (length c.args.bytes.now - c.args.from) (drop c.args.from c.args.bytes.now) ≡ drop c.args.from c.args.bytes.now = rw (← length-drop c.args.from c.args.bytes.now) (take-length (drop c.args.from c.args.bytes.now)) in
    sym (c.loop-b.invariant ∙ fold_end c.loop-b.ok (zeros_end _ c.loop-b.b-index c.loop-b-test.false)) ∙ ap are_zero t
