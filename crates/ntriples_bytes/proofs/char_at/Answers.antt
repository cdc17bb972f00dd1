use Rattle.ntriples_bytes.proofs.Marking.{marks-one, marks-two, marks-three, marks-four, second-within, third-within, fourth-within}
use Rattle.ntriples_bytes.proofs.Decoding.{first-at}
use borrow.Author.Rules.{rules}
use Rattle.ntriples_bytes.proofs.char_at.Goals as goal

pub returns-then-b-lt128 : goal.returns-then-b-lt128
returns-then-b-lt128 c = let f = first-at c.args.bytes.now c.args.at c.requires.utf8from.chars c.requires.at_in_bounds c.requires.utf8from.stands in marks-one c.args.bytes.now c.args.at f.char f.behind f.stands _ c.byte_at-b.ensures.value (search rules)

pub byte_at-c-requires : goal.byte_at-c-requires
byte_at-c-requires c = let f = first-at c.args.bytes.now c.args.at c.requires.utf8from.chars c.requires.at_in_bounds c.requires.utf8from.stands in second-within c.args.bytes.now c.args.at f.char f.behind f.stands _ c.byte_at-b.ensures.value (search rules)

pub returns-then-b-lt224 : goal.returns-then-b-lt224
returns-then-b-lt224 c = let f = first-at c.args.bytes.now c.args.at c.requires.utf8from.chars c.requires.at_in_bounds c.requires.utf8from.stands in marks-two c.args.bytes.now c.args.at f.char f.behind f.stands _ c.byte_at-b.ensures.value _ c.byte_at-c.ensures.value (search rules) (search rules)

pub byte_at-d-requires : goal.byte_at-d-requires
byte_at-d-requires c = let f = first-at c.args.bytes.now c.args.at c.requires.utf8from.chars c.requires.at_in_bounds c.requires.utf8from.stands in third-within c.args.bytes.now c.args.at f.char f.behind f.stands _ c.byte_at-b.ensures.value (search rules)

pub returns-then-b-lt240 : goal.returns-then-b-lt240
returns-then-b-lt240 c = let f = first-at c.args.bytes.now c.args.at c.requires.utf8from.chars c.requires.at_in_bounds c.requires.utf8from.stands in marks-three c.args.bytes.now c.args.at f.char f.behind f.stands _ c.byte_at-b.ensures.value _ c.byte_at-c.ensures.value _ c.byte_at-d.ensures.value (search rules) (search rules)

pub byte_at-e-requires : goal.byte_at-e-requires
byte_at-e-requires c = let f = first-at c.args.bytes.now c.args.at c.requires.utf8from.chars c.requires.at_in_bounds c.requires.utf8from.stands in fourth-within c.args.bytes.now c.args.at f.char f.behind f.stands _ c.byte_at-b.ensures.value (search rules)

pub returns : goal.returns
returns c = let f = first-at c.args.bytes.now c.args.at c.requires.utf8from.chars c.requires.at_in_bounds c.requires.utf8from.stands in marks-four c.args.bytes.now c.args.at f.char f.behind f.stands _ c.byte_at-b.ensures.value _ c.byte_at-c.ensures.value _ c.byte_at-d.ensures.value _ c.byte_at-e.ensures.value (search rules)
