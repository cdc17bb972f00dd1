use native.Mathlib.Omega.{arith}
use mathlib.Core.Path.{refl, ◌∙◌}
use Rattle.ntriples_batches.proofs.Files.{none_done, all_done, count-few, count-some, can_name, more-done, more-lacks, filled_have}
use Rattle.ntriples_batches.proofs.name_file.Goals as goal

-- src/lib.rt:40:5
pub loop-left-init : goal.loop-left-init
loop-left-init c = (refl, refl, c.no_lines-lines.ensures, omega arith, λ es ts e k F. none_done c.args.file.now es ts c.args.dictionary.now c.args.n c.args.f c.args.terms.now e k F)

-- src/lib.rt:41:13
pub gather_lines-batch-requires : goal.gather_lines-batch-requires
gather_lines-batch-requires c = c.loop-left.invariant.3

-- src/lib.rt:43:9
pub overflow_sub-left : goal.overflow_sub-left
overflow_sub-left c = omega (arith, count-few c.args.file.now c.requires.old c.requires.lines c.loop-left.dictionary c.loop-left.from c.loop-left.left c.loop-left.filled c.loop-left.terms (c.loop-left.invariant.4 c.requires.old c.requires.lines c.requires.said c.requires.counted c.requires.filled) c.requires.said c.gather_lines-batch.new.lines c.gather_lines-batch.result (c.gather_lines-batch.auto.lines ∙ c.loop-left.invariant.2) (c.gather_lines-batch.ensures.gathered (c.loop-left.invariant.4 c.requires.old c.requires.lines c.requires.said c.requires.counted c.requires.filled).rest (c.loop-left.invariant.4 c.requires.old c.requires.lines c.requires.said c.requires.counted c.requires.filled).behind))

-- src/lib.rt:44:15
pub name_batch-requires : goal.name_batch-requires
name_batch-requires c = can_name c.args.file.now c.requires.old c.requires.lines c.loop-left.dictionary c.loop-left.from c.loop-left.left c.loop-left.filled c.loop-left.terms (c.loop-left.invariant.4 c.requires.old c.requires.lines c.requires.said c.requires.counted c.requires.filled) c.requires.said c.gather_lines-batch.new.lines c.gather_lines-batch.result (c.gather_lines-batch.auto.lines ∙ c.loop-left.invariant.2) (c.gather_lines-batch.ensures.gathered (c.loop-left.invariant.4 c.requires.old c.requires.lines c.requires.said c.requires.counted c.requires.filled).rest (c.loop-left.invariant.4 c.requires.old c.requires.lines c.requires.said c.requires.counted c.requires.filled).behind) (omega (arith, c.requires.room, c.loop-left.invariant.1))

-- src/lib.rt:46:17
pub returns-in-Err : goal.returns-in-Err
returns-in-Err c = λ es ts e k F. more-lacks c.args.file.now es ts c.loop-left.dictionary c.loop-left.from c.loop-left.left c.loop-left.filled c.loop-left.terms (c.loop-left.invariant.4 es ts e k F) e c.gather_lines-batch.new.lines c.gather_lines-batch.result (c.gather_lines-batch.auto.lines ∙ c.loop-left.invariant.2) (c.gather_lines-batch.ensures.gathered (c.loop-left.invariant.4 es ts e k F).rest (c.loop-left.invariant.4 es ts e k F).behind) c.name_batch.new.dictionary c.name_batch.new.terms c.name_batch.result c.name_batch.ensures (filled_have c.args.dictionary.now c.args.f es F) _ c.in-Err.is

-- src/lib.rt:40:5
pub loop-left-smaller : goal.loop-left-smaller
loop-left-smaller c = omega (arith, count-few c.args.file.now c.requires.old c.requires.lines c.loop-left.dictionary c.loop-left.from c.loop-left.left c.loop-left.filled c.loop-left.terms (c.loop-left.invariant.4 c.requires.old c.requires.lines c.requires.said c.requires.counted c.requires.filled) c.requires.said c.gather_lines-batch.new.lines c.gather_lines-batch.result (c.gather_lines-batch.auto.lines ∙ c.loop-left.invariant.2) (c.gather_lines-batch.ensures.gathered (c.loop-left.invariant.4 c.requires.old c.requires.lines c.requires.said c.requires.counted c.requires.filled).rest (c.loop-left.invariant.4 c.requires.old c.requires.lines c.requires.said c.requires.counted c.requires.filled).behind), count-some c.args.file.now c.requires.old c.requires.lines c.loop-left.dictionary c.loop-left.from c.loop-left.left c.loop-left.filled c.loop-left.terms (c.loop-left.invariant.4 c.requires.old c.requires.lines c.requires.said c.requires.counted c.requires.filled) c.requires.said c.gather_lines-batch.new.lines c.gather_lines-batch.result (c.gather_lines-batch.auto.lines ∙ c.loop-left.invariant.2) (c.gather_lines-batch.ensures.gathered (c.loop-left.invariant.4 c.requires.old c.requires.lines c.requires.said c.requires.counted c.requires.filled).rest (c.loop-left.invariant.4 c.requires.old c.requires.lines c.requires.said c.requires.counted c.requires.filled).behind) c.loop-left-test.true, c.loop-left-test.true)

-- src/lib.rt:40:5
pub loop-left-preserved : goal.loop-left-preserved
loop-left-preserved c = (c.name_batch.auto.dictionary ∙ c.loop-left.invariant.0, c.name_batch.auto.terms ∙ c.loop-left.invariant.1, (c.gather_lines-batch.auto.lines ∙ c.loop-left.invariant.2), c.gather_lines-batch.ensures.within, λ es ts e k F. more-done c.args.file.now es ts c.loop-left.dictionary c.loop-left.from c.loop-left.left c.loop-left.filled c.loop-left.terms (c.loop-left.invariant.4 es ts e k F) e c.gather_lines-batch.new.lines c.gather_lines-batch.result (c.gather_lines-batch.auto.lines ∙ c.loop-left.invariant.2) (c.gather_lines-batch.ensures.gathered (c.loop-left.invariant.4 es ts e k F).rest (c.loop-left.invariant.4 es ts e k F).behind) c.name_batch.new.dictionary c.name_batch.new.terms c.name_batch.result c.name_batch.ensures (filled_have c.args.dictionary.now c.args.f es F) _ c.in-Ok.is c.loop-left-test.true)

-- src/lib.rt:26:1
pub returns : goal.returns
returns c = λ es ts e k F. all_done c.args.file.now es ts c.loop-left.dictionary c.loop-left.from c.loop-left.left c.loop-left.filled c.loop-left.terms (c.loop-left.invariant.4 es ts e k F) c.loop-left-test.false
