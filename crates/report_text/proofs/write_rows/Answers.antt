use mathlib.Core.Path.{refl, ◌∙◌}
use native.Mathlib.Omega.{arith}
use Rattle.spec.specs.Tables.{kept_of}
use Rattle.report_text.proofs.Appending.{none_appended, text_appended}
use Rattle.report_text.proofs.Lines.{rows_none, rows_more, rows_whole}
use Rattle.report_text.proofs.write_rows.Goals as goal

pub overflow_cast-n : goal.overflow_cast-n
overflow_cast-n c = omega (arith, c.type_inv.kept 0)

pub loop-i-init : goal.loop-i-init
loop-i-init c = (text_appended (rows_none (kept_of c.args.kept.now c.args.supports.now)) (none_appended c.args.out.now c.args.at), refl, omega (arith, c.requires.room))

pub write_row-to-requires : goal.write_row-to-requires
write_row-to-requires c = omega (arith, c.loop-i.invariant.2, c.loop-i.invariant.1, c.loop-i-test.true, c.requires.room)

pub loop-i-preserved : goal.loop-i-preserved
loop-i-preserved c = (rows_more c.args.kept.now c.args.supports.now c.requires.places c.loop-i.i c.loop-i-test.true c.loop-i.invariant.0 c.write_row-to.ensures.appended, c.write_row-to.auto.out ∙ c.loop-i.invariant.1, omega (arith, c.loop-i.invariant.2, c.write_row-to.ensures.upper_bound, c.loop-i-test.true))

pub returns : goal.returns
returns c = record { appended = rows_whole c.args.kept.now c.args.supports.now c.requires.places c.loop-i.i c.loop-i-test.false c.loop-i.invariant.0; upper_bound = omega (arith, c.loop-i.invariant.2, c.loop-i.auto.i-end) }
