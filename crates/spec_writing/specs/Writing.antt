-- Rows written as canonical N-Triples, with the texts of a dictionary (document 02, slip 3). Definitions only.
use Rattle.std.specs.Prelude.{ℕ, zero, suc, Bool, ◌&&◌, List, [], ◌∷◌, ◌++◌, map, length, replicate, leb, ltb, Ok, Err}
use Rattle.spec.specs.Outputs.{Reply}
use Rattle.spec.specs.declared.Triple.{Triple}
use Rattle.spec.specs.Terms.{kind}
use Rattle.spec.specs.Lists.{all, padded}
use Rattle.spec.specs.Refusals.{first_refusal}
use Rattle.spec.specs.Tables.{rows, is_statement_table, is_fact_table, is_kept_table}
use Rattle.spec_ntriples.specs.Characters.{codes}
use Rattle.spec_ntriples.specs.Texts.{Text, text, TextTriple}
use Rattle.spec_ntriples.specs.Dictionary.{Entry, entries, is_dictionary}
use Rattle.spec_ntriples.specs.Sights.{text_of}

-- ---- documents

-- "The whitespace following subject, predicate, and object MUST be a single space"; "each line ended by byte 10": the line of a triple.
unfoldable pub line_bytes : TextTriple → List ℕ
line_bytes t = t.subject.bytes ++ (codes " " ++ (t.property.bytes ++ (codes " " ++ (t.object.bytes ++ codes " .\n"))))

-- The canonical document of some triples: their lines, in order.
unfoldable pub document_bytes : List TextTriple → List ℕ
document_bytes [] = []
document_bytes (t ∷ ts) = line_bytes t ++ document_bytes ts

-- ---- rows

-- A term by its kind and its text.
abbrev pub term_text : List Entry → ℕ → Text
term_text es w = text (kind w) (text_of es w)

-- "Texts from the term book": those of a row's terms.
unfoldable pub row_texts : List Entry → Triple → TextTriple
row_texts es t = record { subject = term_text es t.subject; property = term_text es t.property; object = term_text es t.object }

-- "Rows in table order": the document of some rows.
unfoldable pub rows_bytes : List Entry → List Triple → List ℕ
rows_bytes es ts = document_bytes (map (row_texts es) ts)

-- ---- the questions

-- Whether a term has a text: no text is empty.
unfoldable pub has_text : List Entry → ℕ → Bool
has_text es w = ltb 0 (length (text_of es w))

-- Whether all terms of a row have one.
unfoldable pub has_texts : List Entry → Triple → Bool
has_texts es t = has_text es t.subject && (has_text es t.property && has_text es t.object)

-- "Output that does not fit gets 8, as for a listing. Checks: 16 a number has no text in the book, after 1 and before 8."
abbrev pub writing_checks : Bool → List Entry → List Triple → ℕ → List (ℕ × Bool)
writing_checks formed es ts len =
    (1, formed)
    ∷ (16, all (has_texts es) ts)
    ∷ (8, leb (length (rows_bytes es ts)) len)
    ∷ []

-- ---- the whole

-- What a writing gives and leaves: its reply and the bytes of the output.
pub record Written : Type 0 where
  pub reply : Reply
  pub bytes : List ℕ

-- A reply with bytes.
abbrev pub written : Reply → List ℕ → Written
written r bs = record { reply = r; bytes = bs }

-- The first "no" refuses and leaves the whole output zero; else "the length is the result and unused bytes are zero".
unfoldable pub give_bytes : ℕ → List ℕ → ℕ → Written
give_bytes (suc n) bs len = written (Err (suc n)) (replicate len 0)
give_bytes zero bs len = written (Ok (length bs)) (padded len bs)

-- The rows of a table's words, which are formed or not, written with a dictionary into an output of len bytes.
unfoldable pub write_rows : Bool → List ℕ → List ℕ → ℕ → Written
write_rows formed table dictionary len =
    let es = entries dictionary in
    give_bytes (first_refusal (writing_checks (formed && is_dictionary dictionary) es (rows table) len)) (rows_bytes es (rows table)) len

-- "Write facts, kept facts or statements": each as its table is asked for its listing.
unfoldable pub write_statements : List ℕ → List ℕ → ℕ → Written
write_statements table dictionary len = write_rows (is_statement_table table) table dictionary len

-- The facts.
unfoldable pub write_facts : List ℕ → List ℕ → ℕ → Written
write_facts table dictionary len = write_rows (is_fact_table table) table dictionary len

-- The kept facts; their supports are not asked.
unfoldable pub write_kept : List ℕ → List ℕ → ℕ → Written
write_kept table dictionary len = write_rows (is_kept_table table) table dictionary len
