use Prim.Native.Char.{code}
use Rattle.spec_ntriples.specs.computed.Terminals.{outside, string_step}
use Rattle.ntriples_cursor.proofs.Readers.{reads-within, reads-utf8, string_reader, not_closed}
use Rattle.ntriples_cursor.proofs.Stepping.{string-closed, string_behind, string_more}
use Rattle.ntriples_cursor.proofs.steps.string_piece.Goals as goal

pub char_at-m-requires : goal.char_at-m-requires
char_at-m-requires c = record { utf8from = reads-utf8 c.args.line.now c.args.place string_step outside c.requires.coming.given c.requires.coming.behind c.requires.coming.reads; at_in_bounds = reads-within c.args.line.now c.args.place string_step outside c.requires.coming.given c.requires.coming.behind c.requires.coming.reads }

pub behind_string-requires : goal.behind_string-requires
behind_string-requires c = record { chars = c.requires.coming.behind; rest = c.requires.coming.rest; more = c.requires.coming.more; stands = string_behind c.args.line.now c.args.end c.args.place c.requires.bytes c.requires.coming c.char_at-m.result c.char_at-m.ensures c.if-m-eq-QUOTE.true; ends = c.requires.coming.ends; follows = c.requires.coming.follows }

pub returns-then-m-eq-QUOTE : goal.returns-then-m-eq-QUOTE
returns-then-m-eq-QUOTE c = λ bytes S. let B = c.behind_string.ensures S.behind S.rest S.more (string_behind c.args.line.now c.args.end c.args.place bytes S c.char_at-m.result c.char_at-m.ensures c.if-m-eq-QUOTE.true) S.ends S.follows in string-closed c.args.line.now c.args.end c.args.place bytes _ S c.char_at-m.result c.char_at-m.ensures c.if-m-eq-QUOTE.true c.behind_string.result B.0 B.1 c.single.ensures

pub resolved_at-r-requires : goal.resolved_at-r-requires
resolved_at-r-requires c = record { step = string_step; close = code "\""; reader = string_reader; given = c.requires.coming.given; rest = c.requires.coming.behind; reads = c.requires.coming.reads; unclosed = (not_closed c.args.line.now string_step (code "\"") string_reader c.requires.coming.given c.requires.coming.behind c.args.place c.char_at-m.result c.char_at-m.ensures c.if-m-eq-QUOTE.false) }

pub canonical-requires : goal.canonical-requires
canonical-requires c = (c.resolved_at-r.ensures string_step (code "\"") c.requires.coming.given c.requires.coming.behind string_reader c.requires.coming.reads (not_closed c.args.line.now string_step (code "\"") string_reader c.requires.coming.given c.requires.coming.behind c.args.place c.char_at-m.result c.char_at-m.ensures c.if-m-eq-QUOTE.false)).small

pub returns : goal.returns
returns c = λ bytes S. string_more c.args.line.now c.args.end c.args.place bytes _ S c.resolved_at-r.result (c.resolved_at-r.ensures string_step (code "\"") S.given S.behind string_reader S.reads (not_closed c.args.line.now string_step (code "\"") string_reader S.given S.behind c.args.place c.char_at-m.result c.char_at-m.ensures c.if-m-eq-QUOTE.false)) c.canonical.ensures
