-- N-Triples read into a dictionary and a delivery (document 02, slip 1). Definitions only.
use Rattle.std.specs.Prelude.{ℕ, zero, suc, ◌+◌, ◌-◌, ◌*◌, min, Bool, true, false, ◌&&◌, cond, List, [], ◌∷◌, ◌++◌, map, length, replicate, eqb, leb, Ok, Err}
use Rattle.spec.specs.Outputs.{Reply}
use Rattle.spec.specs.declared.Triple.{Triple}
use Rattle.spec.specs.Terms.{triple, is_statement}
use Rattle.spec.specs.Refusals.{first_refusal}
use Rattle.spec.specs.Lists.{select}
use Rattle.spec.specs.Deliveries.{is_fact}
use Rattle.spec.specs.Messages.{Message, most_bytes, encode}
use Rattle.spec_ntriples.specs.Texts.{Text, TextTriple}
use Rattle.spec_ntriples.specs.computed.Lines.{Document, refused, triples, document}
use Rattle.spec_ntriples.specs.Dictionary.{Entry, entry, bytes_of_entries, dictionary_bytes, entries, term_of, next_term, are_numbers_enough, is_dictionary}

-- ---- terms

-- "Gives each new text the next number of its kind in order of first sight": the entries with a text.
unfoldable pub with_text : List Entry → Text → List Entry
with_text es t = cond (eqb (term_of es t.bytes) 0) (es ++ (entry (next_term t.kind es) t.bytes ∷ [])) es

-- The entries with the texts of a triple: subject, property, object.
unfoldable pub with_texts : List Entry → TextTriple → List Entry
with_texts es t = with_text (with_text (with_text es t.subject) t.property) t.object

-- The entries with the texts of some triples, in file order.
unfoldable pub with_all : List Entry → List TextTriple → List Entry
with_all es [] = es
with_all es (t ∷ ts) = with_all (with_texts es t) ts

-- The triple of a line, whose texts have terms.
unfoldable pub triple_of : List Entry → TextTriple → Triple
triple_of es t = triple (term_of es t.subject.bytes) (term_of es t.property.bytes) (term_of es t.object.bytes)

-- ---- the delivery

-- "A delivery of additions, one for each triple line, statements and facts each in file order, without extra fields."
unfoldable pub additions : List Triple → Message
additions ts =
    record { statements_withdrawn = []; facts_withdrawn = []; statements_added = select is_statement ts; facts_added = select is_fact ts; fields = [] }

-- ---- the questions

-- The texts of a document's triples, none where it is refused.
unfoldable pub text_triples : Document → List TextTriple
text_triples refused = []
text_triples (triples ts) = ts

-- Whether a document's lines are right.
unfoldable pub is_right : Document → Bool
is_right refused = false
is_right (triples ts) = true

-- "1 also covers the book; 13 a line breaks the grammar or UTF-8, or an escape gives no character or one barred in its URI; then 14 no space
-- in the book (canonical text and 12 bytes an entry) or no number left; then 15 the delivery would exceed its bytes, or 65,536."
abbrev pub reading_checks : List ℕ → Document → List Entry → ℕ → List (ℕ × Bool)
reading_checks dictionary d es len =
    (1, is_dictionary dictionary)
    ∷ (13, is_right d)
    ∷ (14, leb (length (bytes_of_entries es)) (length dictionary) && are_numbers_enough es)
    ∷ (15, leb (10 + 12 * length (text_triples d)) (min len most_bytes))
    ∷ []

-- ---- the whole

-- What a reading gives and leaves: its reply, the dictionary's bytes and the delivery's.
pub record ReadFile : Type 0 where
  pub reply : Reply
  pub dictionary : List ℕ
  pub delivery : List ℕ

-- A reply with bytes.
abbrev pub read_file : Reply → List ℕ → List ℕ → ReadFile
read_file r d m = record { reply = r; dictionary = d; delivery = m }

-- "A refusal leaves outputs zero, and here the book unchanged"; else "the length is the result and unused bytes are zero".
unfoldable pub conclude_reading : ℕ → List ℕ → List Entry → List Triple → ℕ → ReadFile
conclude_reading (suc n) dictionary es ts len = read_file (Err (suc n)) dictionary (replicate len 0)
conclude_reading zero dictionary es ts len =
    let bytes = encode (additions ts) in
    read_file (Ok (length bytes)) (dictionary_bytes (length dictionary) es) (bytes ++ replicate (len - length bytes) 0)

-- A file read with a dictionary into a delivery of len bytes.
unfoldable pub read_nTriples : List ℕ → List ℕ → ℕ → ReadFile
read_nTriples dictionary file len =
    let d = document file in
    let es = with_all (entries dictionary) (text_triples d) in
    conclude_reading (first_refusal (reading_checks dictionary d es len)) dictionary es (map (triple_of es) (text_triples d)) len
