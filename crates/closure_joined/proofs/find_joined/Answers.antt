use native.Mathlib.Omega.{arith}
use mathlib.Core.Path.{refl}
use lib.ListN.{length-set}
use Rattle.closure_words.proofs.Columns.{stand}
use Rattle.closure_joined.proofs.JoinedLaws.{gathering_start, gathering_past, gathering_more, gathered}
use Rattle.closure_joined.proofs.find_joined.Goals as goal

pub loop-c-init : goal.loop-c-init
loop-c-init c = let stands = stand _ c.args.property c.requires.0 in (refl, omega (arith, stands.ordered, stands.few, c.first_column-c.ensures), stands.few, gathering_start _ _ _ _ _ _ c.first_column-c.ensures)

pub loop-c-preserved-then-is_set : goal.loop-c-preserved-then-is_set
loop-c-preserved-then-is_set c = (simp length-set (omega (arith, c.loop-c.invariant.0)), c.next_column-c.ensures.within, c.loop-c.invariant.2, gathering_more _ _ _ _ _ _ _ c.loop-c.invariant.3 c.next_column-c.ensures c.requires.0 (omega (arith, c.loop-c-test.true, c.end_column-hi.ensures)) (omega (arith, c.loop-c-test.true, c.end_column-hi.ensures, c.loop-c.invariant.0, c.loop-c.invariant.2, c.loop-c.invariant.3.few, c.requires.2)) (c.is_set.ensures.if_true c.if-is_set.true))

pub loop-c-preserved : goal.loop-c-preserved
loop-c-preserved c = (c.loop-c.invariant.0, c.next_column-c.ensures.within, c.loop-c.invariant.2, gathering_past _ _ _ _ _ _ _ c.loop-c.invariant.3 c.next_column-c.ensures (c.is_set.ensures.if_false c.if-is_set.false))

pub returns : goal.returns
returns c = λ st h s. gathered st _ _ _ _ _ _ h s c.loop-c.invariant.3 (omega (arith, c.loop-c-test.false, c.end_column-hi.ensures)) c.loop-c.invariant.1
