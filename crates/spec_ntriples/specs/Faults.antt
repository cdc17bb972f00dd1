-- What bars a line that the grammar allows: "an escape gives no character or one barred in its URI" (document 02, slip 1), or an IRI is
-- relative. Definitions only.
use Rattle.std.specs.Prelude.{ℕ, ◌≡◌, ◌⊎◌, Bool, true, false, ◌&&◌, List, ◌++◌, drop}
use Rattle.spec_ntriples.specs.Utf8.{is_scalar}
use Rattle.spec_ntriples.specs.Characters.{codes, is_iri_char, is_string_char}
use Rattle.spec_ntriples.specs.Texts.{is_absolute}
use Rattle.spec_ntriples.specs.Expressions.{Expression, set, ◌or◌, many, Matches}
use Rattle.spec_ntriples.specs.Productions.{UCHAR, ECHAR, STRING_LITERAL_QUOTE, WS}
use Rattle.spec_ntriples.specs.Meaning.{hex_number, IriPiece, Resolves, Parts}

-- Whether UCHAR gives a character, and one that is allowed.
abbrev pub gives_allowed : (ℕ → Bool) → List ℕ → Bool
gives_allowed allowed p = is_scalar (hex_number 0 (drop 2 p)) && allowed (hex_number 0 (drop 2 p))

-- Behind some pieces, UCHAR gives no character, or one that is not allowed.
pub record BadEscape (piece : Expression) (allowed : ℕ → Bool) (inside : List ℕ) : Type 0 where
  pub before : List ℕ
  pub p : List ℕ
  pub after : List ℕ
  pub spelled : inside ≡ before ++ (p ++ after)
  pub pieces : Matches (many piece) before
  pub matched : Matches UCHAR p
  pub barred : gives_allowed allowed p ≡ false

-- An IRI with such an escape, or a relative one.
pub data FaultyIri (u : List ℕ) : Type 0 where
  escape : (inside : List ℕ) → u ≡ codes "<" ++ (inside ++ codes ">") → BadEscape (set is_iri_char or UCHAR) is_iri_char inside → FaultyIri u
  relative : (inside cs : List ℕ) → u ≡ codes "<" ++ (inside ++ codes ">") → Resolves IriPiece inside cs → is_absolute cs ≡ false → FaultyIri u

-- A string with an escape that gives no character.
pub record FaultyString (u : List ℕ) : Type 0 where
  pub inside : List ℕ
  pub spelled : u ≡ codes "\"" ++ (inside ++ codes "\"")
  pub bad : BadEscape (set is_string_char or ECHAR or UCHAR) (λ c. true) inside

-- A term: an IRI, a literal's string, or its datatype.
pub data Faulty (u : List ℕ) : Type 0 where
  iri : FaultyIri u → Faulty u
  string : (string rest : List ℕ) → u ≡ string ++ rest → FaultyString string → Faulty u
  datatype
      : (string w w' type : List ℕ) → u ≡ string ++ (w ++ (codes "^^" ++ (w' ++ type))) → Matches STRING_LITERAL_QUOTE string → Matches WS w
      → Matches WS w' → FaultyIri type → Faulty u

-- A line with such a subject, predicate or object.
pub record FaultyLine (line : List ℕ) : Type 0 where
  pub parts : Parts line
  pub fault : FaultyIri parts.s ⊎ (FaultyIri parts.p ⊎ Faulty parts.o)
