use Rattle.ntriples_pieces.specs.inside.Pieces.{step_of}
use Rattle.spec_ntriples.specs.computed.Terminals.{slash, digits}
use Rattle.ntriples_bytes.proofs.Decoding.{from_marked}
use Rattle.ntriples_pieces.proofs.Reading.{end_piece, piece_from, leads-scan, gives-piece, breaks-piece, slash-short, slash_long, slash_iri, slash_gives, slash_breaks}
use borrow.Author.Rules.{rules}
use Rattle.ntriples_pieces.proofs.escape_at.Goals as goal

pub returns-then-line-at : goal.returns-then-line-at
returns-then-line-at c = end_piece (step_of c.args.terminal) slash c.args.line.now c.args.at c.if-line-at.true

pub char_at-m-requires : goal.char_at-m-requires
char_at-m-requires c = record { utf8from = c.requires; at_in_bounds = search rules }

pub digits_at-requires : goal.digits_at-requires
digits_at-requires c = record { utf8from = from_marked c.char_at-m.ensures; count_nonzero = search rules }

pub returns-then-m : goal.returns-then-m
returns-then-m c = piece_from (step_of c.args.terminal) slash c.args.line.now c.args.at (digits 4 0) c.char_at-m.result.next c.digits_at.result c.char_at-m.ensures.after (leads-scan (step_of c.args.terminal) slash c.args.line.now c.args.at _ c.char_at-m.ensures (digits 4 0) (slash-short c.args.terminal _ c.if-m.true)) c.digits_at.ensures

pub digits_at-requires-then-m-2 : goal.digits_at-requires-then-m-2
digits_at-requires-then-m-2 c = record { utf8from = from_marked c.char_at-m.ensures; count_nonzero = search rules }

pub returns-then-m-2 : goal.returns-then-m-2
returns-then-m-2 c = piece_from (step_of c.args.terminal) slash c.args.line.now c.args.at (digits 8 0) c.char_at-m.result.next c.digits_at-then-m-2.result c.char_at-m.ensures.after (leads-scan (step_of c.args.terminal) slash c.args.line.now c.args.at _ c.char_at-m.ensures (digits 8 0) (slash_long c.args.terminal _ c.if-m.false c.if-m-2.true)) c.digits_at-then-m-2.ensures

pub returns-in-Iri : goal.returns-in-Iri
returns-in-Iri c = breaks-piece (step_of c.args.terminal) slash c.args.line.now c.args.at _ c.char_at-m.ensures (slash_iri c.args.terminal _ c.if-m.false c.if-m-2.false c.in-Iri.is)

pub returns-then-c-lt-NO_CHAR : goal.returns-then-c-lt-NO_CHAR
returns-then-c-lt-NO_CHAR c = gives-piece (step_of c.args.terminal) slash c.args.line.now c.args.at _ c.char_at-m.ensures _ (slash_gives c.args.terminal _ c.if-m.false c.if-m-2.false c.in-Quoted.is _ c.echar-c.ensures (search rules))

pub returns : goal.returns
returns c = breaks-piece (step_of c.args.terminal) slash c.args.line.now c.args.at _ c.char_at-m.ensures (slash_breaks c.args.terminal _ c.if-m.false c.if-m-2.false c.in-Quoted.is _ c.echar-c.ensures (search rules))
