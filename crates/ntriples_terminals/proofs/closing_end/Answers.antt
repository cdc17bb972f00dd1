use native.Mathlib.Omega.{arith}
use mathlib.Core.Path.{refl, sym, ◌∙◌}
use Rattle.ntriples_pieces.proofs.Reading.{plain-piece}
use Rattle.ntriples_terminals.proofs.Ending.{closes_broken, closes_here, closes_later, closes_end, end_same}
use Rattle.std.specs.Prelude.{Some}
use borrow.Author.Rules.{rules}
use Rattle.ntriples_terminals.proofs.closing_end.Goals as goal

pub loop-at-init : goal.loop-at-init
loop-at-init c = (c.requires, refl)

pub loop-at-preserved-then-is_plain : goal.loop-at-preserved-then-is_plain
loop-at-preserved-then-is_plain c = ((plain-piece c.args.terminal c.args.line.now c.loop-at.at c.loop-at.invariant.0 c.loop-at-test.true (sym c.is_plain.ensures ∙ c.if-is_plain.true)).1.0, c.loop-at.invariant.1 ∙ closes_later c.args.terminal c.args.line.now c.loop-at.at _ _ (plain-piece c.args.terminal c.args.line.now c.loop-at.at c.loop-at.invariant.0 c.loop-at-test.true (sym c.is_plain.ensures ∙ c.if-is_plain.true)))

pub piece_at-requires : goal.piece_at-requires
piece_at-requires c = record { utf8from = c.loop-at.invariant.0; at_in_bounds = c.loop-at-test.true }

pub returns-in-Broken : goal.returns-in-Broken
returns-in-Broken c = c.loop-at.invariant.1 ∙ closes_broken c.args.terminal c.args.line.now c.loop-at.at (rw c.in-Broken.is at c.piece_at.ensures)

pub returns-in-Ends : goal.returns-in-Ends
returns-in-Ends c = end_same c.args.line.now _ _ (Some _) c.loop-at.invariant.1 (closes_here c.args.terminal c.args.line.now c.loop-at.at _ (rw c.in-Ends.is at c.piece_at.ensures))

pub loop-at-smaller : goal.loop-at-smaller
loop-at-smaller c = omega (arith, (rw c.in-Gives.is at c.piece_at.ensures).1.1, c.loop-at-test.true)

pub loop-at-preserved : goal.loop-at-preserved
loop-at-preserved c = ((rw c.in-Gives.is at c.piece_at.ensures).1.0, c.loop-at.invariant.1 ∙ closes_later c.args.terminal c.args.line.now c.loop-at.at _ _ (rw c.in-Gives.is at c.piece_at.ensures))

pub returns : goal.returns
returns c = c.loop-at.invariant.1 ∙ closes_end c.args.terminal c.args.line.now c.loop-at.at (search rules)
