use Rattle.ntriples_cursor.proofs.steps.next_piece.Goals as goal

pub term_piece-requires : goal.term_piece-requires
term_piece-requires c = record { some_coming = rw c.in-Term.is at c.requires.some_coming; place_lt_end = c.requires.place_lt_end }

pub iri_piece-requires : goal.iri_piece-requires
iri_piece-requires c = rw c.in-Iri.is at c.requires.some_coming

pub label_piece-requires : goal.label_piece-requires
label_piece-requires c = record { some_coming = rw c.in-Label.is at c.requires.some_coming; place_lt_end = c.requires.place_lt_end }

pub string_piece-requires : goal.string_piece-requires
string_piece-requires c = rw c.in-Quoted.is at c.requires.some_coming

pub suffix_piece-requires : goal.suffix_piece-requires
suffix_piece-requires c = record { some_coming = rw c.in-Suffix.is at c.requires.some_coming; place_lt_end = c.requires.place_lt_end }

pub tag_piece-requires : goal.tag_piece-requires
tag_piece-requires c = record { some_coming = rw c.in-Tag.is at c.requires.some_coming; place_lt_end = c.requires.place_lt_end }

pub returns-in-Term : goal.returns-in-Term
returns-in-Term c = λ bytes C. c.term_piece.ensures bytes (rw c.in-Term.is at C)

pub returns-in-Iri : goal.returns-in-Iri
returns-in-Iri c = λ bytes C. let S = c.iri_piece.ensures bytes (rw c.in-Iri.is at C) in record { later = S.later; splits = S.splits }

pub returns-in-Label : goal.returns-in-Label
returns-in-Label c = λ bytes C. c.label_piece.ensures bytes (rw c.in-Label.is at C)

pub returns-in-Quoted : goal.returns-in-Quoted
returns-in-Quoted c = λ bytes C. c.string_piece.ensures bytes (rw c.in-Quoted.is at C)

pub returns-in-Suffix : goal.returns-in-Suffix
returns-in-Suffix c = λ bytes C. c.suffix_piece.ensures bytes (rw c.in-Suffix.is at C)

pub returns-in-Tag : goal.returns-in-Tag
returns-in-Tag c = λ bytes C. c.tag_piece.ensures bytes (rw c.in-Tag.is at C)
