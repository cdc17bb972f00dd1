-- Terms, lines and documents of N-Triples, read by functions that compute (RDF 1.1 N-Triples, section 7). Nobody has to read it:
-- specs/Productions.antt has the grammar, and specs/Meaning.antt what its terms, lines and documents mean.
-- Fixed by line_read (proofs/LineRead.antt): a line is read as a triple exactly when it matches the grammar and means that triple.
-- Fixed by line-empty (proofs/LineRead.antt): a line is read as none exactly when it matches white space and a comment.
-- Fixed by line_refused (proofs/Faults.antt): any other line is wrong, and so is one with a fault.
-- Fixed by document-read (proofs/DocumentRead.antt): a file is read as triples exactly when it is UTF-8 of lines that say them.
use Rattle.std.specs.Prelude.{ℕ, Bool, true, ◌&&◌, ◌||◌, cond, List, [], ◌∷◌, eqb}
use Prim.Native.Char.{code}
use Rattle.spec_ntriples.specs.computed.Decoded.{Decoded, broken, decoded, decode}
use Rattle.spec_ntriples.specs.Characters.{codes, is_one_of, is_letter, is_digit, is_pn_chars_u}
use Rattle.spec_ntriples.specs.computed.Terminals.{Got, none, got, outside, iri_step, string_step, scan, label, head_is, tag, skip}
use Rattle.spec_ntriples.specs.Texts.{Text, text, TextTriple, is_absolute, iri_text, blank_text, string_text, tagged_text, typed_text}

-- ---- terms

-- What was read: nothing; or the text of a term, and the characters behind it.
pub data Read : Type 0 where
  nothing : Read
  read : Text → List ℕ → Read

-- An IRI that was read, where it is absolute.
unfoldable pub iri_of : Got → Read
iri_of none = nothing
iri_of (got cs rest) = cond (is_absolute cs) (read (text 0 (iri_text cs)) rest) nothing

-- [8] IRIREF
unfoldable pub read_iri : List ℕ → Read
read_iri [] = nothing
read_iri (c ∷ cs) = cond (eqb c (code "<")) (iri_of (scan iri_step outside cs)) nothing

-- A label that was read behind its first character.
unfoldable pub blank_of : ℕ → Got → Read
blank_of c none = nothing
blank_of c (got cs rest) = read (text 1 (blank_text (c ∷ cs))) rest

-- [141s] BLANK_NODE_LABEL behind its first character, "_".
unfoldable pub read_blank : List ℕ → Read
read_blank [] = nothing
read_blank (c ∷ []) = nothing
read_blank (c ∷ d ∷ cs) = cond (eqb c (code ":") && (is_pn_chars_u d || is_digit d)) (blank_of d (label cs)) nothing

-- A literal with a datatype that was read behind its string.
unfoldable pub typed_of : List ℕ → Read → Read
typed_of string nothing = nothing
typed_of string (read type rest) = read (text 2 (typed_text string type.bytes)) rest

-- Behind the first "^": the second, and the datatype.
unfoldable pub read_type : List ℕ → List ℕ → Read
read_type string [] = nothing
read_type string (c ∷ cs) = cond (eqb c (code "^")) (typed_of string (read_iri (skip cs))) nothing

-- A literal with a language tag that was read behind its string.
unfoldable pub tagged_of : List ℕ → Got → Read
tagged_of string none = nothing
tagged_of string (got cs rest) = read (text 2 (tagged_text string cs)) rest

-- [6] literal behind its string, "('^^' IRIREF | LANGTAG)?"; plain is the literal without either.
unfoldable pub suffixed : List ℕ → Read → List ℕ → Read
suffixed string plain [] = plain
suffixed string plain (c ∷ cs) =
    cond (eqb c (code "@")) (cond (head_is is_letter cs) (tagged_of string (tag is_letter cs)) nothing)
    (cond (eqb c (code "^")) (read_type string cs) plain)

-- A literal whose string was read. White space may stand between its terminals.
unfoldable pub literal_of : Got → Read
literal_of none = nothing
literal_of (got cs rest) = suffixed (string_text cs) (read (text 2 (string_text cs)) rest) (skip rest)

-- [3] subject: "IRIREF | BLANK_NODE_LABEL".
unfoldable pub read_subject : List ℕ → Read
read_subject [] = nothing
read_subject (c ∷ cs) = cond (eqb c (code "_")) (read_blank cs) (read_iri (c ∷ cs))

-- [5] object: "IRIREF | BLANK_NODE_LABEL | literal".
unfoldable pub read_object : List ℕ → Read
read_object [] = nothing
read_object (c ∷ cs) = cond (eqb c (code "\"")) (literal_of (scan string_step outside cs)) (read_subject (c ∷ cs))

-- ---- lines

-- A line: one that "breaks the grammar", one with no triple, or one with a triple.
pub data Line : Type 0 where
  wrong : Line
  empty : Line
  full : TextTriple → Line

-- Whether a comment follows, or nothing.
unfoldable pub is_rest : List ℕ → Bool
is_rest [] = true
is_rest (c ∷ cs) = eqb c (code "#")

-- Behind the object: a dot, and no more.
unfoldable pub end_of : TextTriple → List ℕ → Line
end_of t [] = wrong
end_of t (c ∷ cs) = cond (eqb c (code ".") && is_rest (skip cs)) (full t) wrong

-- Behind the property: the object.
unfoldable pub after_object : Text → Text → Read → Line
after_object s p nothing = wrong
after_object s p (read o rest) = end_of (record { subject = s; property = p; object = o }) (skip rest)

-- Behind the subject: the property, [4] predicate: "IRIREF".
unfoldable pub after_property : Text → Read → Line
after_property s nothing = wrong
after_property s (read p rest) = after_object s p (read_object (skip rest))

-- The subject.
unfoldable pub after_subject : Read → Line
after_subject nothing = wrong
after_subject (read s rest) = after_property s (read_iri (skip rest))

-- [2] triple: "subject predicate object '.'", with white space around and between its terminals; or a line with none.
unfoldable pub read_line : List ℕ → Line
read_line cs = cond (is_rest (skip cs)) empty (after_subject (read_subject (skip cs)))

-- ---- documents

-- One character more, in front of the first of some lines.
unfoldable pub add_to_line : ℕ → List (List ℕ) → List (List ℕ)
add_to_line c [] = (c ∷ []) ∷ []
add_to_line c (l ∷ ls) = (c ∷ l) ∷ ls

-- [7] EOL: "[#xD#xA]+". The lines of some characters: each CR and each LF ends one, and so does the last character.
unfoldable pub lines : List ℕ → List (List ℕ)
lines [] = [] ∷ []
lines (c ∷ cs) = let ls = lines cs in cond (is_one_of (codes "\r\n") c) ([] ∷ ls) (add_to_line c ls)

-- The texts of a document's triples, or that a line of it is wrong.
pub data Document : Type 0 where
  refused : Document
  triples : List TextTriple → Document

-- One triple more, in front.
unfoldable pub with_triple : TextTriple → Document → Document
with_triple t refused = refused
with_triple t (triples ts) = triples (t ∷ ts)

-- One line more, in front.
unfoldable pub with_line : Line → Document → Document
with_line wrong d = refused
with_line empty d = d
with_line (full t) d = with_triple t d

-- The document of some lines.
unfoldable pub read_lines : List (List ℕ) → Document
read_lines [] = triples []
read_lines (l ∷ ls) = with_line (read_line l) (read_lines ls)

-- The document of characters, where bytes are UTF-8.
unfoldable pub document_of : Decoded → Document
document_of broken = refused
document_of (decoded cs) = read_lines (lines cs)

-- [1] ntriplesDoc: what a file says.
unfoldable pub document : List ℕ → Document
document bytes = document_of (decode bytes)
