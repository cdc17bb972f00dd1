use native.Mathlib.Omega.{arith}
use Rattle.ntriples_document.proofs.Counting.{none-counted, all-counted, end-within, beyond, wrong_line, empty_line_lem, full_line}
use Rattle.ntriples_document.proofs.count_triples.Goals as goal
use Rattle.ntriples_document.proofs.count_triples.Goals.{in-Empty, in-Full}

pub loop-from-init : goal.loop-from-init
loop-from-init c = none-counted c.args.file.now

pub slice_bounds-line_of-end : goal.slice_bounds-line_of-end
slice_bounds-line_of-end c = omega (arith, end-within c.args.file.now c.loop-from.from c.loop-from.invariant.within, c.line_end-end.ensures)

pub returns-in-Wrong : goal.returns-in-Wrong
returns-in-Wrong c = wrong_line c.args.file.now c.loop-from.from c.loop-from.count c.loop-from.invariant c.loop-from-test.true c.line_end-end.result c.line_end-end.ensures c.in-Wrong.ensures

pub loop-from-smaller : goal.loop-from-smaller
loop-from-smaller c = omega (arith, beyond c.args.file.now c.loop-from.from c.loop-from.count c.loop-from.invariant c.loop-from-test.true c.line_end-end.result c.line_end-end.ensures c.next_line-from.result c.next_line-from.ensures, c.loop-from-test.true)

pub returns : goal.returns
returns c = all-counted c.args.file.now c.loop-from.from c.loop-from.count c.loop-from.invariant (omega arith)

pub loop-from-preserved : goal.loop-from-preserved
loop-from-preserved c =
    elim c.match-line_of.branch [
      | in-Empty w ↦ rw w.count-is (empty_line_lem c.args.file.now c.loop-from.from c.loop-from.count c.loop-from.invariant c.loop-from-test.true c.line_end-end.result c.line_end-end.ensures c.next_line-from.result c.next_line-from.ensures w.in-Empty.ensures)
      | in-Full w ↦ rw w.count-is (full_line c.args.file.now c.loop-from.from c.loop-from.count c.loop-from.invariant c.loop-from-test.true c.line_end-end.result c.line_end-end.ensures c.next_line-from.result c.next_line-from.ensures w.in-Full.ensures.triple w.in-Full.ensures.same)
    ]
