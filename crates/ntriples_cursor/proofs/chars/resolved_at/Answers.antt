use Rattle.spec_ntriples.specs.computed.Terminals.{outside}
use Rattle.ntriples_cursor.proofs.Readers.{reads-within, reads-utf8, outside-escape, outside-plain, gives_before}
use Rattle.ntriples_cursor.proofs.chars.resolved_at.Goals as goal

pub char_at-m-requires : goal.char_at-m-requires
char_at-m-requires c = record { utf8from = reads-utf8 c.args.line.now c.args.at c.requires.step outside c.requires.given c.requires.rest c.requires.reads; at_in_bounds = reads-within c.args.line.now c.args.at c.requires.step outside c.requires.given c.requires.rest c.requires.reads }

pub escape_at-requires : goal.escape_at-requires
escape_at-requires c = record { step = c.requires.step; close = c.requires.close; reader = c.requires.reader; given = c.requires.given; rest = c.requires.rest; reads = (outside-escape c.args.line.now c.requires.step c.requires.close c.requires.reader c.requires.given c.requires.rest c.args.at c.char_at-m.result c.char_at-m.ensures c.requires.reads c.if-m-eq-BACKSLASH.true) }

pub returns-then-m-eq-BACKSLASH : goal.returns-then-m-eq-BACKSLASH
returns-then-m-eq-BACKSLASH c = λ step close ds rest R D n. gives_before c.args.line.now c.args.at c.char_at-m.result.next step ds rest _ c.char_at-m.ensures.after (c.escape_at.ensures step close ds rest R (outside-escape c.args.line.now step close R ds rest c.args.at c.char_at-m.result c.char_at-m.ensures D c.if-m-eq-BACKSLASH.true))

pub returns : goal.returns
returns c = λ step close ds rest R D n. outside-plain c.args.line.now step close R ds rest c.args.at c.char_at-m.result c.char_at-m.ensures D n c.if-m-eq-BACKSLASH.false
