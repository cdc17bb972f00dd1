-- Canonical N-Triples (RDF 1.1 N-Triples, section 4): the constraints that the Recommendation lists, as relations. Definitions only.
use Rattle.std.specs.Prelude.{ℕ, ◌≡◌, true, List, [], ◌∷◌, ◌++◌}
use Rattle.spec.specs.Lists.{all}
use Rattle.spec_ntriples.specs.Utf8.{is_scalar, utf8}
use Rattle.spec_ntriples.specs.Characters.{codes, is_one_of, is_iri_char, is_string_char}
use Rattle.spec_ntriples.specs.Expressions.{Matches}
use Rattle.spec_ntriples.specs.Productions.{BLANK_NODE_LABEL, LANGTAG}
use Rattle.spec_ntriples.specs.Meaning.{Echar, Resolves, Parts}
use Rattle.spec_ntriples.specs.Reading.{text_triples}
use Rattle.spec_ntriples.specs.computed.Lines.{document}
use Rattle.spec_writing.specs.Writing.{document_bytes}

-- ---- terms

-- "Characters MUST NOT be represented by UCHAR": an IRI's stand as they are.
pub record CanonicalIri (u : List ℕ) : Type 0 where
  pub chars : List ℕ
  pub spelled : u ≡ codes "<" ++ (chars ++ codes ">")
  pub direct : all is_iri_char chars ≡ true

-- "Only the characters U+0022, U+005C, U+000A, U+000D are encoded using ECHAR. ECHAR MUST NOT be used for characters that are allowed
-- directly in STRING_LITERAL_QUOTE."
pub data CanonicalPiece (p : List ℕ) (c : ℕ) : Type 0 where
  itself : p ≡ c ∷ [] → is_string_char c ≡ true → CanonicalPiece p c
  by_echar : Echar p c → is_one_of (0x22 ∷ 0x5C ∷ 0x0A ∷ 0x0D ∷ []) c ≡ true → CanonicalPiece p c

-- A string of such pieces.
pub record CanonicalString (u : List ℕ) : Type 0 where
  pub inside : List ℕ
  pub chars : List ℕ
  pub spelled : u ≡ codes "\"" ++ (inside ++ codes "\"")
  pub resolved : Resolves CanonicalPiece inside chars

-- A term; "all other locations that allow whitespace MUST be empty", so none stands before a language tag or around "^^".
pub data CanonicalTerm (u : List ℕ) : Type 0 where
  iri : CanonicalIri u → CanonicalTerm u
  blank : Matches BLANK_NODE_LABEL u → CanonicalTerm u
  plain : CanonicalString u → CanonicalTerm u
  tagged : (string tag : List ℕ) → u ≡ string ++ tag → CanonicalString string → Matches LANGTAG tag → CanonicalTerm u
  typed : (string type : List ℕ) → u ≡ string ++ (codes "^^" ++ type) → CanonicalString string → CanonicalIri type → CanonicalTerm u

-- ---- lines and documents

-- A line: "the whitespace following subject, predicate, and object MUST be a single space, (U+0020). All other locations that allow
-- whitespace MUST be empty. There MUST be no comments."
pub record CanonicalLine (line : List ℕ) : Type 0 where
  pub parts : Parts line
  pub none_before : parts.w0 ≡ []
  pub behind_subject : parts.w1 ≡ codes " "
  pub behind_predicate : parts.w2 ≡ codes " "
  pub behind_object : parts.w3 ≡ codes " "
  pub none_behind_dot : parts.w4 ≡ []
  pub no_comment : parts.comment ≡ []
  pub subject_term : CanonicalTerm parts.s
  pub predicate_term : CanonicalTerm parts.p
  pub object_term : CanonicalTerm parts.o

-- Lines, "each line ended by byte 10".
pub data CanonicalLines : List ℕ → Type 0 where
  none : {u : List ℕ} → u ≡ [] → CanonicalLines u
  more : {u : List ℕ} (line rest : List ℕ) → u ≡ line ++ (codes "\n" ++ rest) → CanonicalLine line → CanonicalLines rest → CanonicalLines u

-- A file in canonical form: UTF-8 of such lines.
pub record CanonicalFile (bytes : List ℕ) : Type 0 where
  pub chars : List ℕ
  pub scalar : all is_scalar chars ≡ true
  pub encoded : bytes ≡ utf8 chars
  pub canonical : CanonicalLines chars

-- The canonical form of a file: the lines of its triples.
unfoldable pub canonical_form : List ℕ → List ℕ
canonical_form file = document_bytes (text_triples (document file))
