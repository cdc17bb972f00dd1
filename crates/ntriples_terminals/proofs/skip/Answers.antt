use native.Mathlib.Omega.{arith}
use mathlib.Core.Path.{refl, ◌∙◌}
use Rattle.ntriples_bytes.proofs.Decoding.{from_marked, chars_stand}
use Rattle.ntriples_terminals.proofs.Ending.{skip_end, skip-none, skip-one}
use borrow.Author.Rules.{rules}
use Rattle.ntriples_terminals.proofs.skip.Goals as goal

pub loop-at-init : goal.loop-at-init
loop-at-init c = (c.requires, refl)

pub char_at-m-requires : goal.char_at-m-requires
char_at-m-requires c = record { utf8from = c.loop-at.invariant.0; at_in_bounds = c.loop-at-test.true }

pub returns-then-m : goal.returns-then-m
returns-then-m c = rw (c.loop-at.invariant.1 ∙ skip-none c.args.line.now c.loop-at.at _ c.char_at-m.ensures c.if-m.true) (chars_stand c.loop-at.invariant.0)

pub loop-at-smaller : goal.loop-at-smaller
loop-at-smaller c = omega (arith, c.loop-at-test.true, c.char_at-m.ensures.after)

pub loop-at-preserved : goal.loop-at-preserved
loop-at-preserved c = (from_marked c.char_at-m.ensures, c.loop-at.invariant.1 ∙ skip-one c.args.line.now c.loop-at.at _ c.char_at-m.ensures c.if-m.false)

pub returns : goal.returns
returns c = rw (c.loop-at.invariant.1 ∙ skip_end c.args.line.now c.loop-at.at (search rules)) (chars_stand c.loop-at.invariant.0)
