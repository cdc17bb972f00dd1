-- A text that gets its term in the last segment of a dictionary. Definitions only.
use Rattle.std.specs.Prelude.{ℕ, ◌+◌, ◌-◌, ◌^◌, ◌≤◌, ◌<◌, ◌≡◌, ◌⊎◌, List, [], ◌∷◌, ◌++◌, length}
use Rattle.spec_ntriples.specs.Texts.{Text}
use Rattle.spec_ntriples.specs.Dictionary.{Entry, entry, bytes_of_entries, term_in, next_number, next_term}
use Rattle.ntriples_bytes.specs.inside.Places.{HasText}
use Rattle.dictionary_bytes.specs.declared.Filled.{Filled}
use Rattle.dictionary_bytes.specs.inside.Entries.{FilledBy}
use Rattle.dictionary_hash.specs.inside.Hashes.{home_of}
use Rattle.dictionary_index.specs.inside.Index.{FreeAt}
use Rattle.dictionary_names.specs.declared.Named.{Named}
use Rattle.dictionary_names.specs.declared.Named.TheVariants.{Known, New, Full, NoSpace}
use Rattle.dictionary_search.specs.inside.IndexOf.{IndexOf}

-- The last segment of a dictionary that is filled by the entries ds and behind them es: it begins at first, it has so many entries, es, and the
-- slots are their index.
pub record LastSegment (slots bs : List ℕ) (first count : ℕ) (f : Filled) (ds es : List Entry) : Type 0 where
  pub filled : FilledBy bs f (ds ++ es)
  pub starts : first ≡ length (bytes_of_entries ds)
  pub counts : count ≡ length es
  pub index : IndexOf slots bs first es

-- There is such a segment, an index of enough slots, and a term in a line.
pub record CanName (slots bs : List ℕ) (first count : ℕ) (line : List ℕ) (from to : ℕ) (f : Filled) : Type 0 where
  pub before : List Entry
  pub entries : List Entry
  pub last : LastSegment slots bs first count f before entries
  pub enough : 65536 ≤ length slots
  pub text : Text
  pub has : HasText line from to text

-- There is such a segment, and a term in a line, with an empty slot for its text: its entry would begin near enough to the segment's first byte.
pub record CanAdd (slots bs : List ℕ) (first slot : ℕ) (line : List ℕ) (from to : ℕ) (f : Filled) : Type 0 where
  pub count : ℕ
  pub before : List Entry
  pub entries : List Entry
  pub last : LastSegment slots bs first count f before entries
  pub near : f.end - first + 1 < 2 ^ 32
  pub text : Text
  pub has : HasText line from to text
  pub free : FreeAt slots bs first text.bytes (home_of text.bytes) slot

-- A text has no space in a dictionary of len bytes: its entry would go past the end, or its kind has no number left.
abbrev pub HasNoSpace : ℕ → List Entry → Text → Type 0
HasNoSpace len es t = (len < length (bytes_of_entries es) + 12 + length t.bytes) ⊎ (next_number t.kind es ≡ 2 ^ 30)

-- What naming a text did in the last segment: an entry of the segment has it; or it was new and has the next term of its kind, in an entry
-- behind the others, to which the index leads too; or it is in no entry of the segment and nothing changed: a new segment has to begin, or
-- the text has no space.
abbrev pub NamedIn : (slots after bs cs : List ℕ) (first count : ℕ) (ds es : List Entry) (t : Text) → Named → Type 0
NamedIn slots after bs cs first count ds es t (Known w) = (w ≡ term_in es t.bytes) × (0 < w) × (after ≡ slots) × (cs ≡ bs)
NamedIn slots after bs cs first count ds es t (New w f) =
    (term_in es t.bytes ≡ 0) × (w ≡ next_term t.kind (ds ++ es)) × LastSegment after cs first (count + 1) f ds (es ++ (entry w t.bytes ∷ []))
NamedIn slots after bs cs first count ds es t Full = (term_in es t.bytes ≡ 0) × (0 < length es) × (after ≡ slots) × (cs ≡ bs)
NamedIn slots after bs cs first count ds es t NoSpace = (term_in es t.bytes ≡ 0) × HasNoSpace (length bs) (ds ++ es) t × (after ≡ slots) × (cs ≡ bs)
