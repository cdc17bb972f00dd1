-- Texts that get their terms one behind the other. Definitions only.
use Rattle.std.specs.Prelude.{ℕ, ◌+◌, ◌*◌, ◌≤◌, ◌<◌, ◌≡◌, length, get_or, Result, Ok, Err}
use mathlib.Core.List.{List, [], ◌∷◌, ◌++◌, flat_map}
use Rattle.spec_ntriples.specs.Texts.{Text, text, TextTriple}
use Rattle.spec_ntriples.specs.Dictionary.{Entry, term_of, kind_of}
use Rattle.spec_ntriples.specs.Reading.{with_text}
use Rattle.ntriples_bytes.specs.inside.Places.{HasText}
use Rattle.ntriples_lines.specs.declared.Token.{Token}
use Rattle.ntriples_lines.specs.declared.Tokens.{Tokens}
use Rattle.ntriples_batch.specs.inside.Batches.{LineAt, no_triple}
use Rattle.ntriples_terms.specs.inside.Words.{LinesAt}
use Rattle.dictionary_names.specs.inside.Naming.{LastSegment, HasNoSpace}
use Rattle.ntriples_naming.specs.declared.Last.{Last}
use Rattle.ntriples_naming.specs.declared.Stopped.{Stopped}
use Rattle.ntriples_naming.specs.declared.Stopped.TheVariants.{Full, NoSpace}

-- ---- texts

-- The texts of a line: subject, property, object.
unfoldable pub line_texts : TextTriple → List Text
line_texts t = t.subject ∷ t.property ∷ t.object ∷ []

-- The texts of some lines, one behind the other.
unfoldable pub lines_texts : List TextTriple → List Text
lines_texts ts = flat_map line_texts ts

-- What is read past the last of some texts: one of no byte.
abbrev pub no_text : Text
no_text = text 0 []

-- The entries with some texts.
unfoldable pub with_each : List Entry → List Text → List Entry
with_each es [] = es
with_each es (x ∷ xs) = with_each (with_text es x) xs

-- ---- words

-- A text's word among all entries, after a look at those of ds: where it is not 0, it is the text's term; where it is 0, ds has none.
pub record IsWord (ds all : List Entry) (t : List ℕ) (w : ℕ) : Type 0 where
  pub right : 0 < w → w ≡ term_of all t
  pub new : w ≡ 0 → term_of ds t ≡ 0

-- The words of some texts.
abbrev pub AreWords : List Entry → List Entry → List Text → List ℕ → Type 0
AreWords ds all xs ws = (i : ℕ) → i < length xs → IsWord ds all (get_or xs i no_text).bytes (get_or ws i 0)

-- The first n words are not 0.
abbrev pub NamedTo : ℕ → List ℕ → Type 0
NamedTo n ws = (i : ℕ) → i < n → 0 < get_or ws i 0

-- ---- naming

-- The last segment of a dictionary has come from the entries es to others, and the words are those of the texts; the texts that are still to
-- be entered give the same entries as before.
pub record Stands (ds es : List Entry) (xs : List Text) (slots bs : List ℕ) (first : ℕ) (ws : List ℕ) (l : Last) : Type 0 where
  pub entries : List Entry
  pub more : List Entry
  pub grown : entries ≡ es ++ more
  pub last : LastSegment slots bs first l.count l.filled ds entries
  pub same : with_each (ds ++ entries) xs ≡ with_each (ds ++ es) xs
  pub words : AreWords ds (ds ++ entries) xs ws

-- The first of some texts that has no term has no space for an entry in a dictionary of len bytes.
pub record LacksSpace (len : ℕ) (all : List Entry) (xs : List Text) : Type 0 where
  pub place : ℕ
  pub within : place < length xs
  pub first : (i : ℕ) → i < place → 0 < term_of all (get_or xs i no_text).bytes
  pub new : term_of all (get_or xs place no_text).bytes ≡ 0
  pub kind : kind_of (get_or xs place no_text).bytes ≡ (get_or xs place no_text).kind
  pub lacks : HasNoSpace len all (get_or xs place no_text)

-- So far naming came: the first n texts are named; or a new segment has to begin, and this one has entries; or a text has no space.
abbrev pub Reached : (ds es : List Entry) (xs : List Text) (n : ℕ) (slots bs : List ℕ) (first : ℕ) (ws : List ℕ) → Result Last Stopped → Type 0
Reached ds es xs n slots bs first ws (Ok l) = Stands ds es xs slots bs first ws l × NamedTo n ws
Reached ds es xs n slots bs first ws (Err (Full l)) = (S : Stands ds es xs slots bs first ws l) × (0 < length S.entries)
Reached ds es xs n slots bs first ws (Err (NoSpace l)) = (S : Stands ds es xs slots bs first ws l) × LacksSpace (length bs) (ds ++ S.entries) xs

-- Naming came so far, and the text of a word is that of a term in a line.
pub record CanNameWord (slots bs : List ℕ) (first : ℕ) (l : Last) (line : List ℕ) (token : Token) (ws : List ℕ) (j : ℕ) : Type 0 where
  pub before : List Entry
  pub old : List Entry
  pub texts : List Text
  pub reached : Reached before old texts j slots bs first ws (Ok l)
  pub within : j < length texts
  pub has : HasText line token.from token.end (get_or texts j no_text)
  pub enough : 65536 ≤ length slots
  pub room : j < length ws

-- The texts of a triple's terms in a line are those from a place on.
pub record TextsIn (line : List ℕ) (k : Tokens) (xs : List Text) (j : ℕ) : Type 0 where
  pub subject : HasText line k.subject.from k.subject.end (get_or xs j no_text)
  pub property : HasText line k.property.from k.property.end (get_or xs (j + 1) no_text)
  pub object : HasText line k.object.from k.object.end (get_or xs (j + 2) no_text)

-- Naming came so far or stopped, and the texts of three words are those of a line.
pub record CanNameLine (slots bs : List ℕ) (first : ℕ) (p : Result Last Stopped) (line : List ℕ) (k : Tokens) (ws : List ℕ) (j : ℕ) : Type 0 where
  pub before : List Entry
  pub old : List Entry
  pub texts : List Text
  pub reached : Reached before old texts j slots bs first ws p
  pub within : j + 3 ≤ length texts
  pub has : TextsIn line k texts j
  pub enough : 65536 ≤ length slots
  pub room : j + 3 ≤ length ws

-- ---- lines

-- Naming came to a line that begins at a byte index.
pub record CanNameAt (slots bs : List ℕ) (first : ℕ) (l : Last) (file : List ℕ) (begin : ℕ) (ws : List ℕ) (i : ℕ) : Type 0 where
  pub before : List Entry
  pub old : List Entry
  pub triples : List TextTriple
  pub reached : Reached before old (lines_texts triples) (i * 3) slots bs first ws (Ok l)
  pub within : i < length triples
  pub line : LineAt file begin (get_or triples i no_triple)
  pub enough : 65536 ≤ length slots
  pub room : i * 3 + 3 ≤ length ws

-- Before naming: the last segment, behind the entries ds, has the entries es; the n lines are those of some triples, and their words were looked
-- for in ds.
pub record Begins (ds es : List Entry) (ts : List TextTriple) (slots bs : List ℕ) (first : ℕ) (l : Last) (file lines : List ℕ) (n : ℕ) (ws : List ℕ) : Type 0 where
  pub last : LastSegment slots bs first l.count l.filled ds es
  pub counted : n ≡ length ts
  pub stand : LinesAt file lines n ts
  pub words : AreWords ds (ds ++ es) (lines_texts ts) ws

-- It can begin.
pub record CanNameLines (slots bs : List ℕ) (first : ℕ) (l : Last) (file lines : List ℕ) (n : ℕ) (ws : List ℕ) : Type 0 where
  pub before : List Entry
  pub old : List Entry
  pub triples : List TextTriple
  pub begins : Begins before old triples slots bs first l file lines n ws
  pub noted : n ≤ length lines
  pub enough : 65536 ≤ length slots
  pub room : n * 3 ≤ length ws
