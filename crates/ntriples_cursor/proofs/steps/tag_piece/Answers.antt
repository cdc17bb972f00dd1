use native.Mathlib.Omega.{arith}
use Rattle.ntriples_bytes.proofs.Decoding.{some_at}
use Rattle.ntriples_cursor.proofs.Stepping.{tag_small, lower_small, tag_more}
use Rattle.ntriples_cursor.proofs.steps.tag_piece.Goals as goal

pub char_at-m-requires : goal.char_at-m-requires
char_at-m-requires c = record { utf8from = some_at c.requires.some_coming.coming.stands; at_in_bounds = omega (arith, c.requires.some_coming.coming.ends.within) }

pub overflow_cast-lower : goal.overflow_cast-lower
overflow_cast-lower c = omega (arith, lower_small c.char_at-m.result.code, c.lower.ensures, tag_small c.args.line.now c.args.end c.args.place c.requires.some_coming.bytes c.char_at-m.result c.char_at-m.ensures c.requires.place_lt_end c.requires.some_coming.coming)

pub returns : goal.returns
returns c = λ bytes T. tag_more c.args.line.now c.args.end c.args.place bytes _ c.char_at-m.result c.char_at-m.ensures c.requires.place_lt_end _ c.lower.ensures T c.single.ensures
