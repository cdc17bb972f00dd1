-- The canonical texts of terms (RDF 1.1 N-Triples, section 4: "Canonical N-Triples"), as bytes in UTF-8. Definitions only.
use Rattle.std.specs.Prelude.{ℕ, ◌+◌, Bool, true, false, ◌&&◌, ◌||◌, cond, List, [], ◌∷◌, ◌++◌, eqb}
use Prim.Native.Char.{code}
use Rattle.spec_ntriples.specs.Utf8.{is_between, encode_char, utf8}
use Rattle.spec_ntriples.specs.Characters.{codes, is_one_of, is_letter, is_letter_or_digit}

-- A term by its kind, 0 URI, 1 blank or 2 literal, and its "canonical text with its marks".
pub record Text : Type 0 where
  pub kind : ℕ
  pub bytes : List ℕ

-- A text by its parts.
abbrev pub text : ℕ → List ℕ → Text
text k bs = record { kind = k; bytes = bs }

-- The texts of a triple.
pub record TextTriple : Type 0 where
  pub subject : Text
  pub property : Text
  pub object : Text

-- Whether two texts have the same bytes.
unfoldable pub is_same_text : List ℕ → List ℕ → Bool
is_same_text [] [] = true
is_same_text [] (b ∷ t) = false
is_same_text (a ∷ s) [] = false
is_same_text (a ∷ s) (b ∷ t) = eqb a b && is_same_text s t

-- The rest of a scheme: "*( ALPHA / DIGIT / "+" / "-" / "." )" and a colon.
unfoldable pub is_scheme : List ℕ → Bool
is_scheme [] = false
is_scheme (c ∷ cs) = eqb c (code ":") || ((is_letter_or_digit c || is_one_of (codes "+-.") c) && is_scheme cs)

-- "IRIs may be written only as absolute IRIs": a scheme and a colon stand first (RFC 3987, section 2.2; RFC 3986, section 3.1).
unfoldable pub is_absolute : List ℕ → Bool
is_absolute [] = false
is_absolute (c ∷ cs) = is_letter c && is_scheme cs

-- "UCHAR .. MUST NOT be used": an IRI as its characters are, between its marks.
unfoldable pub iri_text : List ℕ → List ℕ
iri_text cs = code "<" ∷ (utf8 cs ++ (code ">" ∷ []))

-- A blank node's label as it is, behind "_:".
unfoldable pub blank_text : List ℕ → List ℕ
blank_text cs = codes "_:" ++ utf8 cs

-- "Within STRING_LITERAL_QUOTE, only the characters U+0022, U+005C, U+000A, U+000D are encoded using ECHAR."
unfoldable pub canonical_char : ℕ → List ℕ
canonical_char c =
    cond (eqb c 0x22) (codes "\\\"")
    (cond (eqb c 0x5C) (codes "\\\\")
    (cond (eqb c 0x0A) (codes "\\n")
    (cond (eqb c 0x0D) (codes "\\r") (encode_char c))))

-- The canonical bytes of a string's characters.
unfoldable pub canonical_chars : List ℕ → List ℕ
canonical_chars [] = []
canonical_chars (c ∷ cs) = canonical_char c ++ canonical_chars cs

-- A string between its quotes.
unfoldable pub string_text : List ℕ → List ℕ
string_text cs = code "\"" ∷ (canonical_chars cs ++ (code "\"" ∷ []))

-- "Language tags put in lower case": A to Z.
unfoldable pub lower_char : ℕ → ℕ
lower_char c = cond (is_between 65 90 c) (c + 32) c

-- A literal's string with a language tag.
unfoldable pub tagged_text : List ℕ → List ℕ → List ℕ
tagged_text string tag = string ++ (code "@" ∷ tag)

-- xsd:string, as canonical text.
abbrev pub xsd_string : List ℕ
xsd_string = codes "<http://www.w3.org/2001/XMLSchema#string>"

-- A literal's string with a datatype: "the type xsd:string left off".
unfoldable pub typed_text : List ℕ → List ℕ → List ℕ
typed_text string type = cond (is_same_text type xsd_string) string (string ++ (codes "^^" ++ type))
