use borrow.Author.Tests.{eq-eqb, ne_eqb}
use Rattle.spec_ntriples.specs.Characters.{echar, is_one_of, codes}
use Rattle.ntriples_chars.proofs.Testing.{or-false}
use Rattle.ntriples_chars.proofs.echar.Goals as goal

-- src/chars.rt:136:9
pub returns-then-c : goal.returns-then-c
unfolding echar
returns-then-c c = rw (eq-eqb _ _ c.if-c.true)

-- src/chars.rt:139:9
pub returns-then-c-2 : goal.returns-then-c-2
unfolding echar
returns-then-c-2 c = rw (ne_eqb _ _ c.if-c.false, eq-eqb _ _ c.if-c-2.true)

-- src/chars.rt:142:9
pub returns-then-c-3 : goal.returns-then-c-3
unfolding echar
returns-then-c-3 c = rw (ne_eqb _ _ c.if-c.false, ne_eqb _ _ c.if-c-2.false, eq-eqb _ _ c.if-c-3.true)

-- src/chars.rt:145:9
pub returns-then-c-4 : goal.returns-then-c-4
unfolding echar
returns-then-c-4 c = rw (ne_eqb _ _ c.if-c.false, ne_eqb _ _ c.if-c-2.false, ne_eqb _ _ c.if-c-3.false, eq-eqb _ _ c.if-c-4.true)

-- src/chars.rt:148:9
pub returns-then-c-5 : goal.returns-then-c-5
unfolding echar
returns-then-c-5 c = rw (ne_eqb _ _ c.if-c.false, ne_eqb _ _ c.if-c-2.false, ne_eqb _ _ c.if-c-3.false, ne_eqb _ _ c.if-c-4.false, eq-eqb _ _ c.if-c-5.true)

-- src/chars.rt:151:9
pub returns-then-c-6 : goal.returns-then-c-6
unfolding echar is_one_of codes
returns-then-c-6 c = simp or-false (rw (ne_eqb _ _ c.if-c.false, ne_eqb _ _ c.if-c-2.false, ne_eqb _ _ c.if-c-3.false, ne_eqb _ _ c.if-c-4.false, ne_eqb _ _ c.if-c-5.false, c.if-c-6.true))

-- src/chars.rt:132:1
pub returns : goal.returns
unfolding echar is_one_of codes
returns c = simp or-false (rw (ne_eqb _ _ c.if-c.false, ne_eqb _ _ c.if-c-2.false, ne_eqb _ _ c.if-c-3.false, ne_eqb _ _ c.if-c-4.false, ne_eqb _ _ c.if-c-5.false, c.if-c-6.false))
