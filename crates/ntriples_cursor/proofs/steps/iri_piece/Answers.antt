use Prim.Native.Char.{code}
use Rattle.spec_ntriples.specs.computed.Terminals.{outside, iri_step}
use Rattle.ntriples_cursor.proofs.Readers.{reads-within, reads-utf8, iri_reader, not_closed}
use Rattle.ntriples_cursor.proofs.Stepping.{iri-closed, iri_more}
use Rattle.ntriples_cursor.proofs.steps.iri_piece.Goals as goal

pub char_at-m-requires : goal.char_at-m-requires
char_at-m-requires c = record { utf8from = reads-utf8 c.args.line.now c.args.place iri_step outside c.requires.coming.given c.requires.coming.rest c.requires.coming.reads; at_in_bounds = reads-within c.args.line.now c.args.place iri_step outside c.requires.coming.given c.requires.coming.rest c.requires.coming.reads }

pub returns-then-m-eq-GREATER : goal.returns-then-m-eq-GREATER
returns-then-m-eq-GREATER c = λ bytes I. iri-closed c.args.line.now c.args.end c.args.place bytes _ I c.char_at-m.result c.char_at-m.ensures c.if-m-eq-GREATER.true c.single.ensures

pub resolved_at-r-requires : goal.resolved_at-r-requires
resolved_at-r-requires c = record { step = iri_step; close = code ">"; reader = iri_reader; given = c.requires.coming.given; rest = c.requires.coming.rest; reads = c.requires.coming.reads; unclosed = (not_closed c.args.line.now iri_step (code ">") iri_reader c.requires.coming.given c.requires.coming.rest c.args.place c.char_at-m.result c.char_at-m.ensures c.if-m-eq-GREATER.false) }

pub encoded-requires : goal.encoded-requires
encoded-requires c = (c.resolved_at-r.ensures iri_step (code ">") c.requires.coming.given c.requires.coming.rest iri_reader c.requires.coming.reads (not_closed c.args.line.now iri_step (code ">") iri_reader c.requires.coming.given c.requires.coming.rest c.args.place c.char_at-m.result c.char_at-m.ensures c.if-m-eq-GREATER.false)).small

pub returns : goal.returns
returns c = λ bytes I. iri_more c.args.line.now c.args.end c.args.place bytes _ I c.resolved_at-r.result (c.resolved_at-r.ensures iri_step (code ">") I.given I.rest iri_reader I.reads (not_closed c.args.line.now iri_step (code ">") iri_reader I.given I.rest c.args.place c.char_at-m.result c.char_at-m.ensures c.if-m-eq-GREATER.false)) c.encoded.ensures
