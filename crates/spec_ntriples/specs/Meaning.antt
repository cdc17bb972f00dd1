-- What the terms and lines of N-Triples mean, as relations: the characters that escapes stand for, the texts of terms, a line's triple.
-- Definitions only.
use Rattle.std.specs.Prelude.{ℕ, ◌+◌, ◌*◌, ◌≡◌, Bool, true, not, List, [], ◌∷◌, ◌++◌, map, get_or, drop}
use Rattle.spec.specs.Lists.{all}
use Rattle.spec_ntriples.specs.Utf8.{is_scalar, utf8}
use Rattle.spec_ntriples.specs.Characters.{codes, is_one_of, is_iri_char, is_string_char, hex_value, echar}
use Rattle.spec_ntriples.specs.Texts.{lower_char, Text, text, is_absolute, iri_text, blank_text, string_text, tagged_text, typed_text, TextTriple}
use Rattle.spec_ntriples.specs.Expressions.{Matches, optional}
use Rattle.spec_ntriples.specs.Productions.{UCHAR, ECHAR, BLANK_NODE_LABEL, LANGTAG, EOL, WS, COMMENT, subject, predicate, object, empty_line}

-- ---- escapes

-- The number of hexadecimal digits behind a number.
unfoldable pub hex_number : ℕ → List ℕ → ℕ
hex_number n [] = n
hex_number n (d ∷ ds) = hex_number (n * 16 + hex_value d) ds

-- UCHAR stands for the scalar value whose number its digits are; other numbers are no characters.
pub record Uchar (p : List ℕ) (c : ℕ) : Type 0 where
  pub matched : Matches UCHAR p
  pub number : hex_number 0 (drop 2 p) ≡ c
  pub scalar : is_scalar c ≡ true

-- ECHAR stands for what the letter behind its backslash says.
pub record Echar (p : List ℕ) (c : ℕ) : Type 0 where
  pub matched : Matches ECHAR p
  pub letter : echar (get_or p 1 0) ≡ c

-- A piece of an IRI and the character that it stands for: one that IRIREF allows, as it is or by UCHAR.
pub data IriPiece (p : List ℕ) (c : ℕ) : Type 0 where
  itself : p ≡ c ∷ [] → is_iri_char c ≡ true → IriPiece p c
  by_uchar : Uchar p c → is_iri_char c ≡ true → IriPiece p c

-- A piece of a string and the character that it stands for.
pub data StringPiece (p : List ℕ) (c : ℕ) : Type 0 where
  itself : p ≡ c ∷ [] → is_string_char c ≡ true → StringPiece p c
  by_echar : Echar p c → StringPiece p c
  by_uchar : Uchar p c → StringPiece p c

-- The characters that pieces, one after the other, stand for.
pub data Resolves (Piece : List ℕ → ℕ → Type 0) : List ℕ → List ℕ → Type 0 where
  end : {u : List ℕ} → u ≡ [] → Resolves Piece u []
  more : {u cs : List ℕ} (p s : List ℕ) (c : ℕ) → u ≡ p ++ s → Piece p c → Resolves Piece s cs → Resolves Piece u (c ∷ cs)

-- ---- terms

-- The characters of an IRI: "<", pieces, ">". "IRIs may be written only as absolute IRIs."
pub record Iri (u cs : List ℕ) : Type 0 where
  pub inside : List ℕ
  pub spelled : u ≡ codes "<" ++ (inside ++ codes ">")
  pub resolved : Resolves IriPiece inside cs
  pub absolute : is_absolute cs ≡ true

-- The characters of a string: a quote, pieces, a quote.
pub record Quoted (u cs : List ℕ) : Type 0 where
  pub inside : List ℕ
  pub spelled : u ≡ codes "\"" ++ (inside ++ codes "\"")
  pub resolved : Resolves StringPiece inside cs

-- A term as it is spelled, and its kind and canonical text.
pub data Means (u : List ℕ) (t : Text) : Type 0 where
  -- An IRI with its escapes resolved.
  iri : (cs : List ℕ) → Iri u cs → t ≡ text 0 (iri_text cs) → Means u t
  -- A blank node's label, as it is.
  blank : (label : List ℕ) → Matches BLANK_NODE_LABEL u → u ≡ codes "_:" ++ label → t ≡ text 1 (blank_text label) → Means u t
  -- A literal that is a string alone.
  plain : (cs : List ℕ) → Quoted u cs → t ≡ text 2 (string_text cs) → Means u t
  -- A string with a language tag, which is put in lower case.
  tagged
      : (string cs w tag : List ℕ) → u ≡ string ++ (w ++ (codes "@" ++ tag)) → Quoted string cs → Matches WS w → Matches LANGTAG (codes "@" ++ tag)
      → t ≡ text 2 (tagged_text (string_text cs) (map lower_char tag)) → Means u t
  -- A string with a datatype, which is left off where it is xsd:string.
  typed
      : (string cs w w' type ds : List ℕ) → u ≡ string ++ (w ++ (codes "^^" ++ (w' ++ type))) → Quoted string cs → Matches WS w → Matches WS w'
      → Iri type ds → t ≡ text 2 (typed_text (string_text cs) (iri_text ds)) → Means u t

-- A canonical text: one that some spelling of a term means.
pub record TextOfTerm (bytes : List ℕ) : Type 0 where
  pub spelling : List ℕ
  pub term : Text
  pub scalar : all is_scalar spelling ≡ true
  pub means : Means spelling term
  pub same : term.bytes ≡ bytes

-- ---- lines

-- A line with a triple, taken apart: white space, subject, white space, predicate, white space, object, white space, a dot, white space, and
-- a comment or nothing.
pub record Parts (line : List ℕ) : Type 0 where
  pub w0 : List ℕ
  pub s : List ℕ
  pub w1 : List ℕ
  pub p : List ℕ
  pub w2 : List ℕ
  pub o : List ℕ
  pub w3 : List ℕ
  pub w4 : List ℕ
  pub comment : List ℕ
  pub spelled : line ≡ w0 ++ (s ++ (w1 ++ (p ++ (w2 ++ (o ++ (w3 ++ (codes "." ++ (w4 ++ comment))))))))
  pub white0 : Matches WS w0
  pub is_subject : Matches subject s
  pub white1 : Matches WS w1
  pub is_predicate : Matches predicate p
  pub white2 : Matches WS w2
  pub is_object : Matches object o
  pub white3 : Matches WS w3
  pub white4 : Matches WS w4
  pub is_comment : Matches (optional COMMENT) comment

-- A line with a triple, and the texts that its subject, predicate and object mean.
pub record TripleLine (line : List ℕ) (t : TextTriple) : Type 0 where
  pub parts : Parts line
  pub subject_means : Means parts.s t.subject
  pub predicate_means : Means parts.p t.property
  pub object_means : Means parts.o t.object

-- ---- documents

-- Whether no character ends a line: none is CR or LF.
abbrev pub is_one_line : List ℕ → Bool
is_one_line l = all (λ c. not (is_one_of (codes "\r\n") c)) l

-- What a line says: nothing, or a triple.
pub data LineSays (line : List ℕ) (ts : List TextTriple) : Type 0 where
  no_triple : Matches empty_line line → ts ≡ [] → LineSays line ts
  one_triple : (t : TextTriple) → TripleLine line t → ts ≡ t ∷ [] → LineSays line ts

-- [1] ntriplesDoc ::= triple? (EOL triple)* EOL?, with lines that have no triple anywhere: lines with EOL between them, and their triples.
pub data Says : List ℕ → List TextTriple → Type 0 where
  last : {u : List ℕ} {ts : List TextTriple} → is_one_line u ≡ true → LineSays u ts → Says u ts
  more
      : {u : List ℕ} {ts : List TextTriple} (line e rest : List ℕ) (ls us : List TextTriple) → u ≡ line ++ (e ++ rest) → is_one_line line ≡ true
      → LineSays line ls → Matches EOL e → Says rest us → ts ≡ ls ++ us → Says u ts

-- A file: UTF-8 of characters that say triples.
pub record FileSays (bytes : List ℕ) (ts : List TextTriple) : Type 0 where
  pub chars : List ℕ
  pub scalar : all is_scalar chars ≡ true
  pub encoded : bytes ≡ utf8 chars
  pub says : Says chars ts
