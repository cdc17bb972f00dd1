use native.Mathlib.Omega.{arith}
use Rattle.ntriples_bytes.proofs.Decoding.{some_at}
use Rattle.ntriples_cursor.proofs.Stepping.{shown_type, type_more, tag_first}
use Rattle.ntriples_cursor.proofs.steps.suffix_piece.Goals as goal

pub char_at-m-requires : goal.char_at-m-requires
char_at-m-requires c = record { utf8from = some_at c.requires.some_coming.coming.stands; at_in_bounds = omega (arith, c.requires.some_coming.coming.ends.within) }

pub returns-then-m-eq-AT_SIGN : goal.returns-then-m-eq-AT_SIGN
returns-then-m-eq-AT_SIGN c = λ bytes S. tag_first c.args.line.now c.args.end c.args.place bytes S c.char_at-m.result c.char_at-m.ensures c.if-m-eq-AT_SIGN.true _ c.single.ensures

pub type_inner-requires : goal.type_inner-requires
type_inner-requires c = let T = shown_type c.args.line.now c.args.end c.args.place c.requires.some_coming.bytes c.requires.some_coming.coming c.char_at-m.result c.char_at-m.ensures c.if-m-eq-AT_SIGN.false in record { chars = c.requires.some_coming.coming.chars; rest = c.requires.some_coming.coming.rest; given = T.given; stands = c.requires.some_coming.coming.stands; typed = T.typed }

pub returns : goal.returns
returns c = λ bytes S. let T = shown_type c.args.line.now c.args.end c.args.place bytes S c.char_at-m.result c.char_at-m.ensures c.if-m-eq-AT_SIGN.false in let R = c.type_inner.ensures S.chars S.rest T.given S.stands T.typed in type_more c.args.line.now c.args.end c.args.place bytes S c.char_at-m.result c.char_at-m.ensures T _ c.type_inner.result R.0 R.1 c.triple.ensures
