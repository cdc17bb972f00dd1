use mathlib.Core.Path.{refl, sym}
use native.Mathlib.Omega.{arith}
use Rattle.spec_ntriples.specs.Characters.{codes}
use Rattle.spec_ntriples.specs.Texts.{is_same_text}
use Rattle.ntriples_cursor.specs.inside.Coming.{type_tail}
use Rattle.ntriples_cursor.proofs.Comparing.{pieces_end, iri_first, iri_again, iri_stop}
use borrow.Author.Rules.{rules}
use Rattle.ntriples_cursor.proofs.steps.is_string_type.Goals as goal

pub loop-place-init : goal.loop-place-init
unfolding codes
loop-place-init c = (omega arith, refl, λ bytes I. iri_first c.args.line.now c.args.end c.args.from bytes type_tail 40 refl I)

pub iri_piece-p-requires : goal.iri_piece-p-requires
iri_piece-p-requires c = record { bytes = (c.loop-place.invariant.2 c.requires.bytes c.requires.coming).left; coming = (c.loop-place.invariant.2 c.requires.bytes c.requires.coming).coming (search rules) }

pub is_piece-requires : goal.is_piece-requires
unfolding codes
is_piece-requires c = record { len_bound = ((c.iri_piece-p.ensures (c.loop-place.invariant.2 c.requires.bytes c.requires.coming).left ((c.loop-place.invariant.2 c.requires.bytes c.requires.coming).coming (search rules))).splits.few, (c.iri_piece-p.ensures (c.loop-place.invariant.2 c.requires.bytes c.requires.coming).left ((c.loop-place.invariant.2 c.requires.bytes c.requires.coming).coming (search rules))).splits.four); left_in_bounds = omega arith }

pub returns-then-not-is_piece : goal.returns-then-not-is_piece
returns-then-not-is_piece c = λ bytes I. sym (iri_stop c.args.line.now c.args.end c.loop-place.place bytes type_tail 40 c.loop-place.i (c.loop-place.invariant.2 bytes I) (search rules) c.iri_piece-p.result (c.iri_piece-p.ensures (c.loop-place.invariant.2 bytes I).left ((c.loop-place.invariant.2 bytes I).coming (search rules))) c.is_piece.result (rw c.loop-place.invariant.1 at c.is_piece.ensures.first) c.if-not-is_piece.true)

pub overflow_add-i : goal.overflow_add-i
overflow_add-i c = omega (arith, (c.iri_piece-p.ensures (c.loop-place.invariant.2 c.requires.bytes c.requires.coming).left ((c.loop-place.invariant.2 c.requires.bytes c.requires.coming).coming (search rules))).splits.few)

pub loop-place-smaller : goal.loop-place-smaller
loop-place-smaller c = omega (arith, (c.iri_piece-p.ensures (c.loop-place.invariant.2 c.requires.bytes c.requires.coming).left ((c.loop-place.invariant.2 c.requires.bytes c.requires.coming).coming (search rules))).splits.goes)

pub loop-place-preserved : goal.loop-place-preserved
loop-place-preserved c = (omega (arith, c.is_piece.ensures.fits c.if-not-is_piece.false), c.loop-place.invariant.1, λ bytes I. iri_again c.args.line.now c.args.end c.loop-place.place bytes type_tail 40 c.loop-place.i (c.loop-place.invariant.2 bytes I) (search rules) c.iri_piece-p.result (c.iri_piece-p.ensures (c.loop-place.invariant.2 bytes I).left ((c.loop-place.invariant.2 bytes I).coming (search rules))) c.is_piece.result (rw c.loop-place.invariant.1 at c.is_piece.ensures.first) c.if-not-is_piece.false)

pub returns : goal.returns
unfolding codes
returns c = λ bytes I. let X = c.loop-place.invariant.2 bytes I in sym (pieces_end (is_same_text bytes type_tail) X.left type_tail c.loop-place.i 40 c.loop-place.i X.same (X.done (search rules)) (omega arith) (search rules))
