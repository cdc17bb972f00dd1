-- Worked examples of writing N-Triples, by computation. Assumes nothing.
use Rattle.std.specs.Prelude.{Ok, Err}
use Prim.Native.Nat.{ℕ}
use Prim.Native.String.{String}
use mathlib.Core.Path.{◌≡◌, refl}
use mathlib.Core.Bool.{Bool, true, false}
use mathlib.Core.List.{List, [], ◌∷◌, ◌++◌, map}
use lib.ListN.{take, replicate}
use Rattle.spec.specs.Terms.{triple, is_uri, is_blank, is_literal, is_triple, are_sides_allowed, is_allowed_statement, is_allowed_fact}
use Rattle.spec.specs.Lists.{all}
use Rattle.spec.specs.Rows.{less}
use Rattle.spec.specs.Order.{is_ascending}
use Rattle.spec.specs.Tables.{capacity, first_rows, rows, are_zero, is_table}
use Rattle.spec_ntriples.specs.Characters.{codes}
use Rattle.spec_ntriples.specs.Texts.{is_same_text}
use Rattle.spec_ntriples.specs.Dictionary.{entry, dictionary_bytes}
use Rattle.spec_ntriples.specs.Reading.{read_file, read_nTriples}
use Rattle.spec_ntriples.specs.inside.Compute.{compute}
use Rattle.spec_writing.specs.Writing.{line_bytes, document_bytes, row_texts, rows_bytes, has_text, has_texts, written, give_bytes, write_rows, write_statements, write_facts, write_kept}
use Rattle.spec_writing.specs.CanonicalForm.{canonical_form}
use Rattle.spec_writing.specs.WritingPromises.{facts_addition, ReadsBack}
use Rattle.spec_writing.specs.Exported.{lines_written, numbered_writing}
use Rattle.spec_writing.proofs.RoundTrip.{facts-read_back}

-- Where `worked` unfolds, writing computes on closed terms.
unfoldable worked : Unit {0}
unfolding compute is_uri is_blank is_literal is_triple are_sides_allowed is_allowed_statement is_allowed_fact all less is_ascending capacity first_rows rows are_zero is_table line_bytes document_bytes row_texts rows_bytes has_text has_texts give_bytes write_rows write_statements write_facts write_kept canonical_form
worked = tt

-- ---- tables

-- The dictionary that a reading of drinks leaves.
abbrev drinks : List ℕ
drinks =
    dictionary_bytes 140
    (entry 16 (codes "<p:cola>")
    ∷ entry 17 (codes "<p:Drink>")
    ∷ entry 0x40000001 (codes "_:goods")
    ∷ entry 18 (codes "<p:name>")
    ∷ entry 0x80000001 (codes "\"Cola!\\n\"@en")
    ∷ [])

-- Two facts.
abbrev facts : List ℕ
facts = 2 ∷ 16 ∷ 1 ∷ 17 ∷ 16 ∷ 18 ∷ 0x80000001 ∷ 0 ∷ []

-- Their lines: 104 bytes.
abbrev fact_lines : List ℕ
fact_lines = codes "<p:cola> <http://www.w3.org/1999/02/22-rdf-syntax-ns#type> <p:Drink> .\n<p:cola> <p:name> \"Cola!\\n\"@en .\n"

pub facts-written : write_facts facts drinks 110 ≡ written (Ok 104) (fact_lines ++ replicate 6 0)
unfolding worked
facts-written = refl

-- Read back with the same dictionary: the two facts added, in 34 bytes.
pub facts-back
    : read_nTriples drinks fact_lines 40
    ≡ read_file (Ok 34) drinks
    (0 ∷ 0 ∷ 0 ∷ 0 ∷ 0 ∷ 0 ∷ 2 ∷ 0 ∷ 16 ∷ 0 ∷ 0 ∷ 0 ∷ 1 ∷ 0 ∷ 0 ∷ 0 ∷ 17 ∷ 0 ∷ 0 ∷ 0 ∷ 16 ∷ 0 ∷ 0 ∷ 0 ∷ 18 ∷ 0 ∷ 0 ∷ 0 ∷ 1 ∷ 0 ∷ 0 ∷ 128 ∷ 0 ∷ 0 ∷ replicate 6 0)
unfolding worked
facts-back = refl

pub facts_back_refused : read_nTriples drinks fact_lines 33 ≡ read_file (Err 15) drinks (replicate 33 0)
unfolding worked
facts_back_refused = refl

-- The theorem says so too.
pub facts-read : ReadsBack drinks (take 104 (write_facts facts drinks 110).bytes) 2 (facts_addition (triple 16 1 17 ∷ triple 16 18 0x80000001 ∷ []))
unfolding worked
facts-read = facts-read_back facts drinks 110 104 refl

-- They are kept facts as well; an output as long as the lines is filled.
pub kept-written : write_kept facts drinks 104 ≡ written (Ok 104) fact_lines
unfolding worked
kept-written = refl

-- One byte too few: 8, and zeros.
pub no_room : write_facts facts drinks 103 ≡ written (Err 8) (replicate 103 0)
unfolding worked
no_room = refl

-- What the exported functions give for these: the number, the length, and every byte of the output.
pub facts_numbered : numbered_writing (write_facts facts drinks 110) ≡ lines_written 0 104 (fact_lines ++ replicate 6 0)
unfolding worked
facts_numbered = refl

pub no_room_numbered : numbered_writing (write_facts facts drinks 103) ≡ lines_written 8 0 (replicate 103 0)
unfolding worked
no_room_numbered = refl

-- A statement, with a blank node.
pub statement-written : write_statements (1 ∷ 17 ∷ 2 ∷ 0x40000001 ∷ []) drinks 72 ≡ written (Ok 70) (codes "<p:Drink> <http://www.w3.org/2000/01/rdf-schema#subClassOf> _:goods .\n" ++ replicate 2 0)
unfolding worked
statement-written = refl

-- 6 has no text: 16, also where no byte is there for the lines.
pub no_text_lem : write_facts (1 ∷ 16 ∷ 17 ∷ 6 ∷ []) drinks 0 ≡ written (Err 16) []
unfolding worked
no_text_lem = refl

-- A property without one: 16.
pub no_property-text : write_facts (1 ∷ 16 ∷ 19 ∷ 17 ∷ []) drinks 2 ≡ written (Err 16) (0 ∷ 0 ∷ [])
unfolding worked
no_property-text = refl

-- An empty table has no lines, and fits no bytes.
pub empty_table : write_facts (0 ∷ []) [] 0 ≡ written (Ok 0) []
unfolding worked
empty_table = refl

-- No table: 1, before 16. A statement is none of the facts.
pub no_table : write_facts (1 ∷ 17 ∷ 2 ∷ 6 ∷ []) drinks 3 ≡ written (Err 1) (0 ∷ 0 ∷ 0 ∷ [])
unfolding worked
no_table = refl

-- No dictionary: 1.
pub no_dictionary : write_facts (0 ∷ []) (7 ∷ []) 1 ≡ written (Err 1) (0 ∷ [])
unfolding worked
no_dictionary = refl

-- ---- canonical form

-- A file with white space, a comment, escapes, a tag in capitals, xsd:string and ends of lines of every form.
pub form-worked
    : canonical_form
    (codes
    "\t<p:\\u0061>\t<p:q>  \"\\u0009\\t\\u000A\\\\\"@EN-us.# a comment\r\n\n_:b<p:q>\"x\" ^^ <http://www.w3.org/2001/XMLSchema#string> .\r<p:a><p:q>\"\\u00e9\"^^<p:\\U00000074>.")
    ≡ codes "<p:a> <p:q> \"\t\t\\n\\\\\"@en-us .\n_:b <p:q> \"x\" .\n<p:a> <p:q> \"" ++ (0xC3 ∷ 0xA9 ∷ codes "\"^^<p:t> .\n")
unfolding worked
form-worked = refl

-- Whether a file is its own canonical form.
abbrev is_own_form : String → Bool
is_own_form f = is_same_text (canonical_form (codes f)) (codes f)

-- A file that is, an empty one, and others, each off in one point: white space of two characters, a tab, none before the dot, some in
-- front, some behind the dot, a comment, byte 13, no end, an empty line, a tab by ECHAR, a letter by UCHAR, a tag in capitals, xsd:string.
pub forms-worked
    : map is_own_form
    ("<p:a> <p:q> \"x\\n\"@en .\n"
    ∷ ""
    ∷ "<p:a>  <p:q> <p:b> .\n"
    ∷ "<p:a>\t<p:q> <p:b> .\n"
    ∷ "<p:a> <p:q> <p:b>.\n"
    ∷ " <p:a> <p:q> <p:b> .\n"
    ∷ "<p:a> <p:q> <p:b> . \n"
    ∷ "<p:a> <p:q> <p:b> .#\n"
    ∷ "<p:a> <p:q> <p:b> .\r\n"
    ∷ "<p:a> <p:q> <p:b> ."
    ∷ "<p:a> <p:q> <p:b> .\n\n"
    ∷ "<p:a> <p:q> \"\\t\" .\n"
    ∷ "<p:a> <p:q> \"\\u0041\" .\n"
    ∷ "<p:a> <p:q> \"x\"@EN .\n"
    ∷ "<p:a> <p:q> \"x\"^^<http://www.w3.org/2001/XMLSchema#string> .\n"
    ∷ [])
    ≡ true ∷ true ∷ replicate 13 false
unfolding worked
forms-worked = refl
