use Rattle.ntriples_bytes.proofs.Decoding.{from_marked}
use Rattle.ntriples_terminals.proofs.Ending.{end_same, iri_end, iri-none, iri-some}
use Rattle.ntriples_terminals.proofs.iri_end.Goals as goal

pub returns-then-line-from : goal.returns-then-line-from
returns-then-line-from c = iri_end c.args.line.now c.args.from c.if-line-from.true

pub returns-then-m : goal.returns-then-m
returns-then-m c = iri-none c.args.line.now c.args.from _ c.char_at-m.ensures c.if-m.true

pub absolute_end-requires : goal.absolute_end-requires
absolute_end-requires c = from_marked c.char_at-m.ensures

pub returns : goal.returns
returns c = end_same c.args.line.now _ _ c.absolute_end.result (iri-some c.args.line.now c.args.from _ c.char_at-m.ensures c.if-m.false) c.absolute_end.ensures
