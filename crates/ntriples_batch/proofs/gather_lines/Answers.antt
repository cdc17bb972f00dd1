use native.Mathlib.Omega.{arith}
use mathlib.Core.Path.{refl, sym, ◌∙◌}
use lib.ListN.{length, length-set}
use Rattle.ntriples_document.proofs.Counting.{end-within}
use Rattle.ntriples_batch.proofs.Gathering.{lines_left, places_left, nothing_left, none-gathered, no_triple_lem, one_triple, went_on, all-gathered}
use borrow.Author.Rules.{rules}
use Rattle.ntriples_batch.proofs.gather_lines.Goals as goal

pub loop-at-init : goal.loop-at-init
loop-at-init c = (omega arith, search rules, omega arith, refl, λ ts e. none-gathered c.args.file.now ts c.args.lines.now c.args.from e)

pub slice_bounds-has_triple-end : goal.slice_bounds-has_triple-end
slice_bounds-has_triple-end c = omega (arith, end-within c.args.file.now c.loop-at.at c.loop-at.invariant.1, c.line_end-end.ensures)

pub bounds-lines-count : goal.bounds-lines-count
bounds-lines-count c = (places_left c.loop-at.at (length c.args.file.now) c.loop-at.count (length c.loop-at.lines) c.loop-at-test.true)

pub loop-at-smaller-then-has_triple : goal.loop-at-smaller-then-has_triple
loop-at-smaller-then-has_triple c = omega (arith, c.next_line-at.ensures.after c.loop-at.at (omega (arith, c.line_end-end.ensures)) (lines_left c.loop-at.at (length c.args.file.now) c.loop-at.count (length c.loop-at.lines) c.loop-at-test.true), (lines_left c.loop-at.at (length c.args.file.now) c.loop-at.count (length c.loop-at.lines) c.loop-at-test.true))

pub loop-at-preserved-then-has_triple : goal.loop-at-preserved-then-has_triple
loop-at-preserved-then-has_triple c = (omega (arith, c.loop-at.invariant.0, c.next_line-at.ensures.after c.loop-at.at (omega (arith, c.line_end-end.ensures)) (lines_left c.loop-at.at (length c.args.file.now) c.loop-at.count (length c.loop-at.lines) c.loop-at-test.true)), c.next_line-at.ensures.within, simp length-set (omega (arith, (places_left c.loop-at.at (length c.args.file.now) c.loop-at.count (length c.loop-at.lines) c.loop-at-test.true))), simp length-set c.loop-at.invariant.3, λ ts e. one_triple c.args.file.now ts c.loop-at.lines c.loop-at.count c.loop-at.at (c.loop-at.invariant.4 ts e) (lines_left c.loop-at.at (length c.args.file.now) c.loop-at.count (length c.loop-at.lines) c.loop-at-test.true) c.line_end-end.result c.line_end-end.ensures c.next_line-at.result c.next_line-at.ensures (places_left c.loop-at.at (length c.args.file.now) c.loop-at.count (length c.loop-at.lines) c.loop-at-test.true) (sym c.has_triple.ensures ∙ c.if-has_triple.true))

pub loop-at-smaller : goal.loop-at-smaller
loop-at-smaller c = omega (arith, c.next_line-at.ensures.after c.loop-at.at (omega (arith, c.line_end-end.ensures)) (lines_left c.loop-at.at (length c.args.file.now) c.loop-at.count (length c.loop-at.lines) c.loop-at-test.true), (lines_left c.loop-at.at (length c.args.file.now) c.loop-at.count (length c.loop-at.lines) c.loop-at-test.true))

pub loop-at-preserved : goal.loop-at-preserved
loop-at-preserved c = (omega (arith, c.loop-at.invariant.0, c.next_line-at.ensures.after c.loop-at.at (omega (arith, c.line_end-end.ensures)) (lines_left c.loop-at.at (length c.args.file.now) c.loop-at.count (length c.loop-at.lines) c.loop-at-test.true)), c.next_line-at.ensures.within, c.loop-at.invariant.2, c.loop-at.invariant.3, λ ts e. no_triple_lem c.args.file.now ts c.loop-at.lines c.loop-at.count c.loop-at.at (c.loop-at.invariant.4 ts e) (lines_left c.loop-at.at (length c.args.file.now) c.loop-at.count (length c.loop-at.lines) c.loop-at-test.true) c.line_end-end.result c.line_end-end.ensures c.next_line-at.result c.next_line-at.ensures (sym c.has_triple.ensures ∙ c.if-has_triple.false))

pub returns : goal.returns
returns c = record { within = c.loop-at.invariant.1; goes_on = (λ h z. went_on c.args.from (length c.loop-at.lines) (length c.args.file.now) c.loop-at.count c.loop-at.at c.loop-at.invariant.0 c.loop-at.invariant.2 (nothing_left c.loop-at.at (length c.args.file.now) c.loop-at.count (length c.loop-at.lines) c.loop-at-test.false) h (omega (arith, z, c.loop-at.invariant.3))); gathered = λ ts e. all-gathered c.args.file.now ts c.loop-at.lines c.loop-at.count c.loop-at.at (c.loop-at.invariant.4 ts e) c.loop-at.invariant.2 (nothing_left c.loop-at.at (length c.args.file.now) c.loop-at.count (length c.loop-at.lines) c.loop-at-test.false) }
