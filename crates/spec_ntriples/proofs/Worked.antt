-- Worked examples of reading N-Triples, by computation. Assumes nothing.
use Rattle.std.specs.Prelude.{Ok, Err}
use Prim.Native.Nat.{ℕ}
use Prim.Native.String.{String}
use mathlib.Core.Path.{◌≡◌, refl}
use mathlib.Core.Bool.{true, false}
use mathlib.Core.List.{List, [], ◌∷◌, ◌++◌, map}
use lib.ListN.{replicate}
use Rattle.spec_ntriples.specs.Utf8.{utf8}
use Rattle.spec_ntriples.specs.computed.Decoded.{Decoded, broken, decoded, decode}
use Rattle.spec_ntriples.specs.Characters.{codes}
use Rattle.spec_ntriples.specs.Texts.{Text, text, TextTriple}
use Rattle.spec_ntriples.specs.computed.Lines.{Line, wrong, empty, full, read_line, triples, document}
use Rattle.spec_ntriples.specs.Dictionary.{entry, dictionary_bytes, is_dictionary}
use Rattle.spec_ntriples.specs.Reading.{read_file, read_nTriples}
use Rattle.spec_ntriples.specs.inside.Compute.{compute}

-- ---- lines

-- The text of a URI, a blank node or a literal.
abbrev uri : String → Text
uri s = text 0 (utf8 (codes s))

abbrev blank : String → Text
blank s = text 1 (utf8 (codes s))

abbrev literal : String → Text
literal s = text 2 (utf8 (codes s))

-- A triple of texts.
abbrev says : Text → Text → Text → TextTriple
says s p o = record { subject = s; property = p; object = o }

-- Lines, and what each gives.
abbrev worked_lines : List (String × Line)
worked_lines =
    ("<http://example.org/show/218> <http://www.w3.org/2000/01/rdf-schema#label> \"That Seventies Show\"^^<http://www.w3.org/2001/XMLSchema#string> .", full (says (uri "<http://example.org/show/218>") (uri "<http://www.w3.org/2000/01/rdf-schema#label>") (literal "\"That Seventies Show\"")))
    ∷ ("<http://example.org/show/218> <http://example.org/show/localName> \"Cette Série des Années Septante\"@fr-BE .", full (says (uri "<http://example.org/show/218>") (uri "<http://example.org/show/localName>") (literal "\"Cette Série des Années Septante\"@fr-be")))
    ∷ ("_:a.b<p:q>_:c.", full (says (blank "_:a.b") (uri "<p:q>") (blank "_:c")))
    ∷ ("<\\u0070:\\U0001F600> <p:q> \"\\t\\u000A\\u003E\\\"\" ^^ <p:t> . # as it is", full (says (uri "<p:😀>") (uri "<p:q>") (literal "\"\t\\n>\\\"\"^^<p:t>")))
    ∷ (" \t# no triple", empty)
    ∷ ("", empty)
    ∷ ("<p:a> <p:q> _:c..", wrong)
    ∷ ("<p:a> <p:q> <p:\\u003E> .", wrong)
    ∷ ("<p:a> <p:q> \"\\uD83D\\uDE00\" .", wrong)
    ∷ ("<p:a> <p:q> \"\\U00110000\" .", wrong)
    ∷ ("<p:a> <p:q> <q> .", wrong)
    ∷ ("<p:a> <p:q> <p:b>", wrong)
    ∷ []

pub lines_worked : map (λ (r : String × Line). read_line (codes r.0)) worked_lines ≡ map (λ (r : String × Line). r.1) worked_lines
unfolding compute
lines_worked = refl

-- The Recommendation's first example, a file.
pub first-example
    : document
    (codes
    "<http://one.example/subject1> <http://one.example/predicate1> <http://one.example/object1> . # comments here\n# or on a line by themselves\n_:subject1 <http://an.example/predicate1> \"object1\" .\n_:subject2 <http://an.example/predicate2> \"object2\" .\n")
    ≡ triples
    (says (uri "<http://one.example/subject1>") (uri "<http://one.example/predicate1>") (uri "<http://one.example/object1>")
    ∷ says (blank "_:subject1") (uri "<http://an.example/predicate1>") (literal "\"object1\"")
    ∷ says (blank "_:subject2") (uri "<http://an.example/predicate2>") (literal "\"object2\"")
    ∷ [])
unfolding compute
first-example = refl

-- ---- bytes

-- Bytes, and their characters: the last of two, three and four bytes, and forms that are too long, surrogates, above the last code point, or
-- cut off.
abbrev worked_bytes : List (List ℕ × Decoded)
worked_bytes =
    (codes "a" ++ (0xDF ∷ 0xBF ∷ 0xEF ∷ 0xBF ∷ 0xBF ∷ 0xF4 ∷ 0x8F ∷ 0xBF ∷ 0xBF ∷ []), decoded (0x61 ∷ 0x7FF ∷ 0xFFFF ∷ 0x10FFFF ∷ []))
    ∷ (0xC0 ∷ 0x80 ∷ [], broken)
    ∷ (0xE0 ∷ 0x80 ∷ 0x80 ∷ [], broken)
    ∷ (0xED ∷ 0xA0 ∷ 0x80 ∷ [], broken)
    ∷ (0xF4 ∷ 0x90 ∷ 0x80 ∷ 0x80 ∷ [], broken)
    ∷ (0xE2 ∷ 0x82 ∷ [], broken)
    ∷ []

pub bytes_worked : map (λ (r : List ℕ × Decoded). decode r.0) worked_bytes ≡ map (λ (r : List ℕ × Decoded). r.1) worked_bytes
unfolding compute
bytes_worked = refl

-- ---- files

-- A fact, a statement, an empty line, and a literal with escapes and a tag.
abbrev drinks : List ℕ
drinks =
    codes
    "<p:cola> <http://www.w3.org/1999/02/22-rdf-syntax-ns#type> <p:Drink> . # a fact\n<p:Drink> <http://www.w3.org/2000/01/rdf-schema#subClassOf> _:goods . \r\n\n<p:cola><p:name>\"Cola\\u0021\\n\"@EN."

-- What they give.
pub drinks-read
    : read_nTriples (replicate 140 0) drinks 60
    ≡ read_file (Ok 46)
    (dictionary_bytes 140
    (entry 16 (codes "<p:cola>")
    ∷ entry 17 (codes "<p:Drink>")
    ∷ entry 0x40000001 (codes "_:goods")
    ∷ entry 18 (codes "<p:name>")
    ∷ entry 0x80000001 (codes "\"Cola!\\n\"@en")
    ∷ []))
    (0 ∷ 0 ∷ 0 ∷ 0 ∷ 1 ∷ 0 ∷ 17 ∷ 0 ∷ 0 ∷ 0 ∷ 2 ∷ 0 ∷ 0 ∷ 0 ∷ 1 ∷ 0 ∷ 0 ∷ 64 ∷ 2 ∷ 0 ∷ 16 ∷ 0 ∷ 0 ∷ 0 ∷ 1 ∷ 0 ∷ 0 ∷ 0 ∷ 17 ∷ 0 ∷ 0 ∷ 0 ∷ 16 ∷ 0 ∷ 0 ∷ 0 ∷ 18 ∷ 0 ∷ 0 ∷ 0 ∷ 1 ∷ 0 ∷ 0 ∷ 128 ∷ 0 ∷ 0 ∷ replicate 14 0)
unfolding compute
drinks-read = refl

-- A file whose three texts do not fit the dictionary, into a delivery that is too short: 14 comes before 15. With a byte more there, 15.
pub no_space : read_nTriples (replicate 50 0) (codes "<p:a><p:q><p:b>.") 21 ≡ read_file (Err 14) (replicate 50 0) (replicate 21 0)
unfolding compute
no_space = refl

pub no_room : read_nTriples (replicate 51 0) (codes "<p:a><p:q><p:b>.") 21 ≡ read_file (Err 15) (replicate 51 0) (replicate 21 0)
unfolding compute
no_room = refl

-- A line that breaks the grammar is 13, also where the dictionary is full.
pub broken_line : read_nTriples [] (codes "<p:a><p:q><p:b>.\nx") 0 ≡ read_file (Err 13) [] []
unfolding compute
broken_line = refl

-- Dictionaries: one that is right, the same text twice, a text of the vocabulary, a tag in capitals, and a number left out.
pub dictionaries
    : map is_dictionary
    (dictionary_bytes 60 (entry 16 (codes "<p:a>") ∷ entry 0x80000001 (codes "\"a\"@en") ∷ [])
    ∷ dictionary_bytes 60 (entry 16 (codes "<p:a>") ∷ entry 17 (codes "<p:a>") ∷ [])
    ∷ dictionary_bytes 80 (entry 16 (codes "<http://www.w3.org/2000/01/rdf-schema#domain>") ∷ [])
    ∷ dictionary_bytes 60 (entry 0x80000001 (codes "\"a\"@EN") ∷ [])
    ∷ dictionary_bytes 60 (entry 17 (codes "<p:a>") ∷ [])
    ∷ [])
    ≡ true ∷ false ∷ false ∷ false ∷ false ∷ []
unfolding compute
dictionaries = refl
