-- What writing promises (document 02, slip 3), in words that its theorems use. Definitions only.
use Rattle.std.specs.Prelude.{ℕ, ◌+◌, ◌*◌, ◌≤◌, ◌<◌, min, ◌≡◌, Bool, true, false, length, replicate, Ok, Err}
use mathlib.Core.List.{List, [], ◌∷◌, ◌++◌, map, Memᴰ}
use Rattle.spec.specs.declared.Triple.{Triple}
use Rattle.spec.specs.Lists.{padded}
use Rattle.spec.specs.Tables.{rows}
use Rattle.spec.specs.Messages.{Message, most_bytes, encode}
use Rattle.spec_ntriples.specs.Characters.{codes}
use Rattle.spec_ntriples.specs.Texts.{lower_char, xsd_string}
use Rattle.spec_ntriples.specs.Expressions.{Matches}
use Rattle.spec_ntriples.specs.Productions.{LANGTAG}
use Rattle.spec_ntriples.specs.Dictionary.{Entry, entries, is_dictionary}
use Rattle.spec_ntriples.specs.Sights.{text_of}
use Rattle.spec_ntriples.specs.Reading.{read_file, read_nTriples}
use Rattle.spec_writing.specs.Writing.{rows_bytes}
use Rattle.spec_writing.specs.CanonicalForm.{CanonicalString, CanonicalLines, CanonicalFile}

-- ---- refusals

-- "A number has no text in the book": a term that stands in a row.
pub record NoText (es : List Entry) (ts : List Triple) : Type 0 where
  pub row : Triple
  pub listed : Memᴰ row ts
  pub term : ℕ
  pub stands : Memᴰ term (row.subject ∷ row.property ∷ row.object ∷ [])
  pub none : text_of es term ≡ []

-- Why a writing is refused, and by which number: the first "no" of 1, 16 and 8.
pub data WritingRefusedBy (formed : Bool) (table dictionary : List ℕ) (len n : ℕ) : Type 0 where
  no_table : n ≡ 1 → formed ≡ false → WritingRefusedBy formed table dictionary len n
  no_dictionary : n ≡ 1 → is_dictionary dictionary ≡ false → WritingRefusedBy formed table dictionary len n
  no_text
      : n ≡ 16 → formed ≡ true → is_dictionary dictionary ≡ true → NoText (entries dictionary) (rows table)
      → WritingRefusedBy formed table dictionary len n
  no_room
      : n ≡ 8 → formed ≡ true → is_dictionary dictionary ≡ true → (NoText (entries dictionary) (rows table) → ⊥)
      → len < length (rows_bytes (entries dictionary) (rows table)) → WritingRefusedBy formed table dictionary len n

-- That a writing is accepted, and gives n bytes.
pub record WritingAccepted (formed : Bool) (table dictionary : List ℕ) (len n : ℕ) : Type 0 where
  pub table_formed : formed ≡ true
  pub dictionary_formed : is_dictionary dictionary ≡ true
  pub have_texts : NoText (entries dictionary) (rows table) → ⊥
  pub room : length (rows_bytes (entries dictionary) (rows table)) ≤ len
  pub size : n ≡ length (rows_bytes (entries dictionary) (rows table))

-- ---- one canonical form

-- What slip 1 asks of texts beyond the Recommendation, of a canonical term: "language tags put in lower case, and the type xsd:string left
-- off".
pub record NormalTerm (u : List ℕ) : Type 0 where
  pub lower_case
      : (string tag : List ℕ) → u ≡ string ++ (codes "@" ++ tag) → CanonicalString string → Matches LANGTAG (codes "@" ++ tag) → map lower_char tag ≡ tag
  pub no_string_type : (string : List ℕ) → u ≡ string ++ (codes "^^" ++ xsd_string) → CanonicalString string → ⊥

-- The same of the objects of canonical lines; subjects and predicates have neither tags nor types.
abbrev pub NormalLines : {u : List ℕ} → CanonicalLines u → Type 0
NormalLines (CanonicalLines.none e) = Unit {0}
NormalLines (CanonicalLines.more line rest e L Ls) = NormalTerm L.parts.o × NormalLines Ls

-- A canonical file of such lines.
pub record NormalFile (bytes : List ℕ) : Type 0 where
  pub file : CanonicalFile bytes
  pub normal : NormalLines file.canonical

-- ---- the way back

-- A delivery that adds some facts and says nothing else.
abbrev pub facts_addition : List Triple → Message
facts_addition ts = record { statements_withdrawn = []; facts_withdrawn = []; statements_added = []; facts_added = ts; fields = [] }

-- One that adds some statements.
abbrev pub statements_addition : List Triple → Message
statements_addition ts = record { statements_withdrawn = []; facts_withdrawn = []; statements_added = ts; facts_added = []; fields = [] }

-- "Where the delivery has space for them, reading the output with that same book yields the same triples and adds no text": a file of n
-- lines, read with a dictionary, leaves the dictionary as it was and gives the bytes of a message and zeros; without that space it is
-- refused by 15.
pub record ReadsBack (dictionary file : List ℕ) (n : ℕ) (says : Message) : Type 0 where
  pub fits
      : (len : ℕ) → 10 + 12 * n ≤ min len most_bytes
      → read_nTriples dictionary file len ≡ read_file (Ok (10 + 12 * n)) dictionary (padded len (encode says))
  pub exceeds
      : (len : ℕ) → min len most_bytes < 10 + 12 * n → read_nTriples dictionary file len ≡ read_file (Err 15) dictionary (replicate len 0)
