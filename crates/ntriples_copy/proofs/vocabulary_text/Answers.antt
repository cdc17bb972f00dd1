use native.Mathlib.Omega.{arith}
use mathlib.Core.Path.{◌≡◌}
use Rattle.spec_ntriples.specs.Characters.{codes}
use Rattle.ntriples_copy.proofs.vocabulary_text.Goals as goal

pub returns-in-1 : goal.returns-in-1
unfolding codes
returns-in-1 c = rw c.in-1.is

pub returns-in-2 : goal.returns-in-2
unfolding codes
returns-in-2 c = rw c.in-2.is

pub returns-in-3 : goal.returns-in-3
unfolding codes
returns-in-3 c = rw c.in-3.is

pub returns-in-4 : goal.returns-in-4
unfolding codes
returns-in-4 c = rw c.in-4.is

pub returns-in_default : goal.returns-in_default
unfolding codes
returns-in_default c = let e : c.args.term ≡ 5 = omega arith in rw e
