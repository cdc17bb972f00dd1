use borrow.Author.Tests.{eq-eqb, ne_eqb}
use Rattle.ntriples_cursor.specs.inside.Letters.{letter_of}
use Rattle.ntriples_cursor.proofs.pieces.letter_of.Goals as goal

pub returns-then-c-eq-QUOTE : goal.returns-then-c-eq-QUOTE
unfolding letter_of
returns-then-c-eq-QUOTE c = rw (eq-eqb _ _ c.if-c-eq-QUOTE.true)

pub returns-then-c-eq-BACKSLASH : goal.returns-then-c-eq-BACKSLASH
unfolding letter_of
returns-then-c-eq-BACKSLASH c = rw (ne_eqb _ _ c.if-c-eq-QUOTE.false, eq-eqb _ _ c.if-c-eq-BACKSLASH.true)

pub returns-then-c-eq-LINE_FEED : goal.returns-then-c-eq-LINE_FEED
unfolding letter_of
returns-then-c-eq-LINE_FEED c = rw (ne_eqb _ _ c.if-c-eq-QUOTE.false, ne_eqb _ _ c.if-c-eq-BACKSLASH.false, eq-eqb _ _ c.if-c-eq-LINE_FEED.true)

pub returns-then-c-eq-CARRIAGE_RETURN : goal.returns-then-c-eq-CARRIAGE_RETURN
unfolding letter_of
returns-then-c-eq-CARRIAGE_RETURN c = rw (ne_eqb _ _ c.if-c-eq-QUOTE.false, ne_eqb _ _ c.if-c-eq-BACKSLASH.false, ne_eqb _ _ c.if-c-eq-LINE_FEED.false, eq-eqb _ _ c.if-c-eq-CARRIAGE_RETURN.true)

pub returns : goal.returns
unfolding letter_of
returns c = rw (ne_eqb _ _ c.if-c-eq-QUOTE.false, ne_eqb _ _ c.if-c-eq-BACKSLASH.false, ne_eqb _ _ c.if-c-eq-LINE_FEED.false, ne_eqb _ _ c.if-c-eq-CARRIAGE_RETURN.false)
