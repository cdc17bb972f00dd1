use native.Mathlib.Omega.{arith}
use Rattle.ntriples_bytes.proofs.Decoding.{some_at}
use Rattle.ntriples_cursor.proofs.Widths.{char_small}
use Rattle.ntriples_cursor.proofs.Stepping.{label_more}
use Rattle.ntriples_cursor.proofs.steps.label_piece.Goals as goal

pub char_at-m-requires : goal.char_at-m-requires
char_at-m-requires c = record { utf8from = some_at c.requires.some_coming.coming.stands; at_in_bounds = omega (arith, c.requires.some_coming.coming.ends.within) }

pub encoded-requires : goal.encoded-requires
encoded-requires c = omega (arith, char_small c.args.line.now c.args.place c.char_at-m.result.code c.char_at-m.ensures.behind c.char_at-m.ensures.stands)

pub returns : goal.returns
returns c = λ bytes B. label_more c.args.line.now c.args.end c.args.place bytes _ c.char_at-m.result c.char_at-m.ensures c.requires.place_lt_end B c.encoded.ensures
