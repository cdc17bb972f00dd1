use mathlib.Core.Path.{sym, ◌∙◌}
use Rattle.ntriples_pieces.specs.inside.Pieces.{step_of}
use Rattle.spec_ntriples.specs.computed.Terminals.{outside, slash}
use Rattle.ntriples_bytes.proofs.Decoding.{from_marked}
use Rattle.ntriples_pieces.proofs.Reading.{piece_from, leads-scan, gives-piece, breaks-piece, ends-piece, outside_ends, outside_leads, outside-gives, outside-breaks}
use Rattle.ntriples_pieces.proofs.piece_at.Goals as goal

pub char_at-m-requires : goal.char_at-m-requires
char_at-m-requires c = record { utf8from = c.requires.utf8from; at_in_bounds = c.requires.at_in_bounds }

pub returns-then-m-closing : goal.returns-then-m-closing
returns-then-m-closing c = ends-piece (step_of c.args.terminal) outside c.args.line.now c.args.at _ c.char_at-m.ensures (outside_ends c.args.terminal _ (c.if-m-closing.true ∙ c.closing.ensures))

pub escape_at-requires : goal.escape_at-requires
escape_at-requires c = from_marked c.char_at-m.ensures

pub returns-then-m : goal.returns-then-m
returns-then-m c = piece_from (step_of c.args.terminal) outside c.args.line.now c.args.at slash c.char_at-m.result.next c.escape_at.result c.char_at-m.ensures.after (leads-scan (step_of c.args.terminal) outside c.args.line.now c.args.at _ c.char_at-m.ensures slash (outside_leads c.args.terminal _ (λ x. c.if-m-closing.false (x ∙ sym c.closing.ensures)) c.if-m.true)) c.escape_at.ensures

pub returns-then-may_stand : goal.returns-then-may_stand
returns-then-may_stand c = gives-piece (step_of c.args.terminal) outside c.args.line.now c.args.at _ c.char_at-m.ensures _ (outside-gives c.args.terminal _ (λ x. c.if-m-closing.false (x ∙ sym c.closing.ensures)) c.if-m.false (sym c.may_stand.ensures ∙ c.if-may_stand.true))

pub returns : goal.returns
returns c = breaks-piece (step_of c.args.terminal) outside c.args.line.now c.args.at _ c.char_at-m.ensures (outside-breaks c.args.terminal _ (λ x. c.if-m-closing.false (x ∙ sym c.closing.ensures)) c.if-m.false (sym c.may_stand.ensures ∙ c.if-may_stand.false))
