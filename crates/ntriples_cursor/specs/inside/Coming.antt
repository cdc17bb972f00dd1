-- The bytes of a term's canonical text that are still to come, for a cursor that stands in the term. Definitions only.
use Rattle.std.specs.Prelude.{ℕ, ◌+◌, ◌≤◌, ◌<◌, ◌≡◌, List, [], ◌∷◌, ◌++◌, length, take}
use Prim.Native.Char.{code}
use Rattle.spec_ntriples.specs.Utf8.{utf8}
use Rattle.spec_ntriples.specs.Characters.{codes}
use Rattle.spec_ntriples.specs.computed.Terminals.{outside, iri_step, string_step, scan, got, skip}
use Rattle.spec_ntriples.specs.Texts.{lower_char, Text, iri_text, canonical_chars, xsd_string}
use Rattle.ntriples_bytes.specs.inside.Places.{At, HasText}
use Rattle.ntriples_cursor.specs.inside.Readers.{Reads}
use Rattle.ntriples_cursor.specs.declared.Mode.{Mode}
use Rattle.ntriples_cursor.specs.declared.Mode.TheVariants.{Term, Iri, Label, Quoted, Suffix, Tag}
use Rattle.ntriples_cursor.specs.declared.Cursor.{Cursor}
use Rattle.ntriples_cursor.specs.declared.Piece.{Piece}

-- ---- literals behind their strings

-- A tag in lower case.
unfoldable pub lowered : List ℕ → List ℕ
lowered [] = []
lowered (c ∷ cs) = lower_char c ∷ lowered cs

-- Characters of ASCII.
abbrev pub AreAscii : List ℕ → Type 0
AreAscii [] = Unit {0}
AreAscii (c ∷ cs) = (c < 0x80) × AreAscii cs

-- "^^" and an IRI with some characters, behind which others stand.
pub record Typed (cs rest given : List ℕ) : Type 0 where
  pub behind : List ℕ
  pub marks : cs ≡ code "^" ∷ code "^" ∷ behind
  pub inner : List ℕ
  pub opens : skip behind ≡ code "<" ∷ inner
  pub scans : scan iri_step outside inner ≡ got given rest

-- "@" and a tag with some characters, behind which others stand.
pub record Tagged (cs rest given : List ℕ) : Type 0 where
  pub marks : cs ≡ code "@" ∷ (given ++ rest)
  pub ascii : AreAscii given

-- What follows the string of a literal that ends before some characters, and how its canonical text goes on behind the string.
pub data Follows (cs rest bytes : List ℕ) : Type 0 where
  plain : cs ≡ rest → bytes ≡ [] → Follows cs rest bytes
  left_off : (given : List ℕ) → Typed (skip cs) rest given → iri_text given ≡ xsd_string → bytes ≡ [] → Follows cs rest bytes
  typed : (given : List ℕ) → Typed (skip cs) rest given → (iri_text given ≡ xsd_string → ⊥) → bytes ≡ codes "^^" ++ iri_text given → Follows cs rest bytes
  tagged : (given : List ℕ) → Tagged (skip cs) rest given → bytes ≡ code "@" ∷ lowered given → Follows cs rest bytes

-- ---- what is to come, by the mode of the cursor

-- The whole text.
pub record TermComing (line : List ℕ) (end place : ℕ) (bytes : List ℕ) : Type 0 where
  pub text : Text
  pub has : HasText line place end text
  pub same : bytes ≡ text.bytes

-- Inside an IRI.
pub record IriComing (line : List ℕ) (end place : ℕ) (bytes : List ℕ) : Type 0 where
  pub given : List ℕ
  pub rest : List ℕ
  pub reads : Reads line place iri_step outside given rest
  pub ends : At line end rest
  pub same : bytes ≡ utf8 given ++ (code ">" ∷ [])

-- Inside a label, or behind the last byte of the text.
pub record LabelComing (line : List ℕ) (end place : ℕ) (bytes : List ℕ) : Type 0 where
  pub given : List ℕ
  pub rest : List ℕ
  pub stands : At line place (given ++ rest)
  pub ends : At line end rest
  pub same : bytes ≡ utf8 given

-- Inside a string.
pub record StringComing (line : List ℕ) (end place : ℕ) (bytes : List ℕ) : Type 0 where
  pub given : List ℕ
  pub behind : List ℕ
  pub rest : List ℕ
  pub more : List ℕ
  pub reads : Reads line place string_step outside given behind
  pub ends : At line end rest
  pub follows : Follows behind rest more
  pub same : bytes ≡ canonical_chars given ++ (code "\"" ∷ more)

-- At the mark of a datatype or a tag that is shown.
pub data Shown (cs rest bytes : List ℕ) : Type 0 where
  typed_at : (given : List ℕ) → Typed cs rest given → bytes ≡ codes "^^" ++ iri_text given → Shown cs rest bytes
  tagged_at : (given : List ℕ) → Tagged cs rest given → bytes ≡ code "@" ∷ lowered given → Shown cs rest bytes

-- Behind a literal's string, at the mark of what is shown of its datatype or tag, up to the end of the term.
pub record SuffixComing (line : List ℕ) (end place : ℕ) (bytes : List ℕ) : Type 0 where
  pub chars : List ℕ
  pub rest : List ℕ
  pub stands : At line place chars
  pub ends : At line end rest
  pub shown : Shown chars rest bytes

-- Inside a tag.
pub record TagComing (line : List ℕ) (end place : ℕ) (bytes : List ℕ) : Type 0 where
  pub given : List ℕ
  pub rest : List ℕ
  pub stands : At line place (given ++ rest)
  pub ends : At line end rest
  pub ascii : AreAscii given
  pub same : bytes ≡ lowered given

-- The bytes to come for a cursor in a mode.
abbrev pub ComingIn : Mode → List ℕ → ℕ → ℕ → List ℕ → Type 0
ComingIn Term line end place bytes = TermComing line end place bytes
ComingIn Iri line end place bytes = IriComing line end place bytes
ComingIn Label line end place bytes = LabelComing line end place bytes
ComingIn Quoted line end place bytes = StringComing line end place bytes
ComingIn Suffix line end place bytes = SuffixComing line end place bytes
ComingIn Tag line end place bytes = TagComing line end place bytes

-- The bytes to come for a cursor in a term that ends at an index.
abbrev pub Coming : List ℕ → ℕ → Cursor → List ℕ → Type 0
Coming line end c bytes = ComingIn c.mode line end c.place bytes

-- Some bytes are to come in a mode.
pub record SomeComing (mode : Mode) (line : List ℕ) (end place : ℕ) : Type 0 where
  pub bytes : List ℕ
  pub coming : ComingIn mode line end place bytes

-- Some datatype stands at an index.
pub record SomeTyped (line : List ℕ) (place : ℕ) : Type 0 where
  pub chars : List ℕ
  pub rest : List ℕ
  pub given : List ℕ
  pub stands : At line place chars
  pub typed : Typed chars rest given

-- Something follows a string that ends at an index.
pub record SomeFollows (line : List ℕ) (end place : ℕ) : Type 0 where
  pub chars : List ℕ
  pub rest : List ℕ
  pub more : List ℕ
  pub stands : At line place chars
  pub ends : At line end rest
  pub follows : Follows chars rest more

-- xsd:string behind its first mark.
abbrev pub type_tail : List ℕ
type_tail = codes "http://www.w3.org/2001/XMLSchema#string>"

-- ---- pieces

-- A piece has some bytes of text, and a cursor behind them.
pub record Holds (text : List ℕ) (next : Cursor) (p : Piece) : Type 0 where
  pub bytes : take p.len p.bytes ≡ text
  pub leads : p.next ≡ next
  pub few : p.len ≤ 4
  pub four : 4 ≤ length p.bytes

-- A piece is the first of bytes that are to come at an index, and others are to come later; it has no more bytes than it takes up in the line.
pub record Splits (line : List ℕ) (end place : ℕ) (bytes later : List ℕ) (p : Piece) : Type 0 where
  pub same : bytes ≡ take p.len p.bytes ++ later
  pub coming : Coming line end p.next later
  pub few : p.len ≤ 4
  pub four : 4 ≤ length p.bytes
  pub goes : place < p.next.place
  pub room : place + p.len ≤ p.next.place

-- A piece is the first of bytes that are to come at an index.
pub record Stepped (line : List ℕ) (end place : ℕ) (bytes : List ℕ) (p : Piece) : Type 0 where
  pub later : List ℕ
  pub splits : Splits line end place bytes later p

-- The same inside an IRI: until the term ends, the cursor stays inside it.
pub record IriStepped (line : List ℕ) (end place : ℕ) (bytes : List ℕ) (p : Piece) : Type 0 where
  pub later : List ℕ
  pub splits : Splits line end place bytes later p
  pub inside : p.next.place < end → IriComing line end p.next.place later
