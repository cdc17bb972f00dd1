use native.Mathlib.Omega.{arith}
use Rattle.spec_ntriples.specs.computed.Terminals.{slash}
use Rattle.ntriples_cursor.proofs.Readers.{reads-within, reads-utf8, slash-short, slash_long, slash-letter, gives_later}
use Rattle.ntriples_cursor.proofs.chars.escape_at.Goals as goal

pub char_at-m-requires : goal.char_at-m-requires
char_at-m-requires c = record { utf8from = reads-utf8 c.args.line.now c.args.at c.requires.step slash c.requires.given c.requires.rest c.requires.reads; at_in_bounds = reads-within c.args.line.now c.args.at c.requires.step slash c.requires.given c.requires.rest c.requires.reads }

pub number_char-requires : goal.number_char-requires
number_char-requires c = record { in_state = record { step = c.requires.step; close = c.requires.close; reader = c.requires.reader; given = c.requires.given; rest = c.requires.rest; reads = (slash-short c.args.line.now c.requires.step c.requires.close c.requires.reader c.requires.given c.requires.rest c.args.at c.char_at-m.result c.char_at-m.ensures c.requires.reads c.if-m-eq-LETTER_U.true) }; le_count = (omega arith, omega arith) }

pub returns-then-m-eq-LETTER_U : goal.returns-then-m-eq-LETTER_U
returns-then-m-eq-LETTER_U c = λ step close ds rest R D. gives_later c.args.line.now c.args.at c.char_at-m.result.next step ds rest _ c.char_at-m.ensures.after (c.number_char.ensures step close ds rest R (slash-short c.args.line.now step close R ds rest c.args.at c.char_at-m.result c.char_at-m.ensures D c.if-m-eq-LETTER_U.true))

pub number_char-requires-then-m-eq-CAPITAL_U : goal.number_char-requires-then-m-eq-CAPITAL_U
number_char-requires-then-m-eq-CAPITAL_U c = record { in_state = record { step = c.requires.step; close = c.requires.close; reader = c.requires.reader; given = c.requires.given; rest = c.requires.rest; reads = (slash_long c.args.line.now c.requires.step c.requires.close c.requires.reader c.requires.given c.requires.rest c.args.at c.char_at-m.result c.char_at-m.ensures c.requires.reads c.if-m-eq-CAPITAL_U.true) }; le_count = (omega arith, omega arith) }

pub returns-then-m-eq-CAPITAL_U : goal.returns-then-m-eq-CAPITAL_U
returns-then-m-eq-CAPITAL_U c = λ step close ds rest R D. gives_later c.args.line.now c.args.at c.char_at-m.result.next step ds rest _ c.char_at-m.ensures.after (c.number_char-then-m-eq-CAPITAL_U.ensures step close ds rest R (slash_long c.args.line.now step close R ds rest c.args.at c.char_at-m.result c.char_at-m.ensures D c.if-m-eq-CAPITAL_U.true))

pub returns : goal.returns
returns c = λ step close ds rest R D. slash-letter c.args.line.now step close R ds rest c.args.at c.char_at-m.result c.char_at-m.ensures D c.if-m-eq-LETTER_U.false c.if-m-eq-CAPITAL_U.false _ c.echar.ensures
