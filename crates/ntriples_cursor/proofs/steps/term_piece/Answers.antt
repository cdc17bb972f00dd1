use Prim.Native.Char.{code}
use mathlib.Core.List.{◌++◌}
use native.Mathlib.Omega.{arith}
use Rattle.ntriples_bytes.proofs.Decoding.{some_at, at_within}
use Rattle.ntriples_cursor.proofs.Stepping.{term-literal, term_iri, term_colon, term_blank}
use Rattle.ntriples_cursor.proofs.steps.term_piece.Goals as goal

pub char_at-m-requires : goal.char_at-m-requires
char_at-m-requires c = record { utf8from = some_at c.requires.some_coming.coming.has.starts; at_in_bounds = omega (arith, c.requires.some_coming.coming.has.behind.within) }

pub returns-then-m-eq-QUOTE : goal.returns-then-m-eq-QUOTE
returns-then-m-eq-QUOTE c = λ bytes T. term-literal c.args.line.now c.args.end c.args.place bytes T c.char_at-m.result c.char_at-m.ensures c.if-m-eq-QUOTE.true _ c.single.ensures

pub char_at-requires : goal.char_at-requires
char_at-requires c = let B = term_colon c.args.line.now c.args.end c.args.place c.requires.some_coming.bytes c.requires.some_coming.coming c.char_at-m.result c.char_at-m.ensures c.if-m-eq-UNDERSCORE.true in
    record { utf8from = some_at B.stands; at_in_bounds = at_within c.args.line.now c.char_at-m.result.next (code ":") (B.given ++ c.requires.some_coming.coming.has.rest) B.stands }

pub returns-then-m-eq-UNDERSCORE : goal.returns-then-m-eq-UNDERSCORE
returns-then-m-eq-UNDERSCORE c = λ bytes T. term_blank c.args.line.now c.args.end c.args.place bytes T c.char_at-m.result c.char_at-m.ensures (term_colon c.args.line.now c.args.end c.args.place bytes T c.char_at-m.result c.char_at-m.ensures c.if-m-eq-UNDERSCORE.true) c.char_at.result c.char_at.ensures _ c.double.ensures

pub returns : goal.returns
returns c = λ bytes T. term_iri c.args.line.now c.args.end c.args.place bytes T c.char_at-m.result c.char_at-m.ensures c.if-m-eq-QUOTE.false c.if-m-eq-UNDERSCORE.false _ c.single-2.ensures
