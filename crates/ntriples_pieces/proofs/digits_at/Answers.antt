use native.Mathlib.Omega.{arith}
use Rattle.ntriples_pieces.proofs.Reading.{first-digit, digits_end, not-hex, too-great-digit, last-digit, more-digits}
use Rattle.ntriples_pieces.proofs.digits_at.Goals as goal

pub loop-init : goal.loop-init
loop-init c = first-digit c.args.terminal c.args.line.now c.args.from c.args.count _ (omega arith) c.requires.count_nonzero c.requires.utf8from

pub returns-then-line-at : goal.returns-then-line-at
returns-then-line-at c = digits_end c.args.terminal c.args.line.now c.args.from c.args.count _ c.loop.value c.loop.at c.loop.invariant (omega arith) c.if-line-at.true

pub char_at-m-requires-clause-utf8from : goal.char_at-m-requires-clause-utf8from
char_at-m-requires-clause-utf8from c = c.loop.invariant.utf8

pub returns-then-h-ge16 : goal.returns-then-h-ge16
returns-then-h-ge16 c = not-hex c.args.terminal c.args.line.now c.args.from c.args.count _ c.loop.value c.loop.at c.loop.invariant (omega arith) _ c.char_at-m.ensures _ c.hex_value-h.ensures.value (omega arith)

pub overflow_mul-value : goal.overflow_mul-value
overflow_mul-value c = omega (arith, c.loop.invariant.small)

pub overflow_add-value : goal.overflow_add-value
overflow_add-value c = omega (arith, c.loop.invariant.small, c.hex_value-h.ensures.upper_bound)

pub returns-then-value-gt-LAST_CODE : goal.returns-then-value-gt-LAST_CODE
returns-then-value-gt-LAST_CODE c = too-great-digit c.args.terminal c.args.line.now c.args.from c.args.count _ c.loop.value c.loop.at c.loop.invariant (omega arith) _ c.char_at-m.ensures _ c.hex_value-h.ensures.value (omega arith) (omega arith)

pub loop-preserved : goal.loop-preserved
loop-preserved c = more-digits c.args.terminal c.args.line.now c.args.from c.args.count _ c.loop.value c.loop.at c.loop.invariant (omega arith) _ c.char_at-m.ensures _ c.hex_value-h.ensures.value (omega arith) _ (omega arith) (omega arith)

pub returns : goal.returns
returns c = last-digit c.args.terminal c.args.line.now c.args.from c.args.count _ c.loop.value c.loop.at c.loop.invariant (omega arith) c.requires.count_nonzero _ c.number_piece.ensures
