-- A batch of lines whose texts get their terms segment by segment. Definitions only.
use Rattle.std.specs.Prelude.{ℕ, ◌*◌, ◌≤◌, ◌<◌, ◌≡◌, false, ◌&&◌, List, ◌++◌, map, length, leb}
use Rattle.spec.specs.Tables.{first_rows}
use Rattle.spec_ntriples.specs.Texts.{TextTriple}
use Rattle.spec_ntriples.specs.Dictionary.{Entry, bytes_of_entries, are_numbers_enough}
use Rattle.spec_ntriples.specs.Reading.{with_all, triple_of}
use Rattle.dictionary_bytes.specs.declared.Filled.{Filled}
use Rattle.dictionary_bytes.specs.inside.Entries.{FilledBy}
use Rattle.dictionary_names.specs.inside.Naming.{LastSegment}
use Rattle.ntriples_terms.specs.inside.Words.{LinesAt}
use Rattle.ntriples_naming.specs.declared.Last.{Last}
use Rattle.ntriples_naming.specs.inside.Progress.{lines_texts, AreWords}
use Rattle.ntriples_last.specs.declared.Step.{Step}
use Rattle.ntriples_last.specs.declared.Step.TheVariants.{Done, Lacks, Next}

-- ---- batches

-- The first n lines that are noted are those of some triples, and of no more.
pub record IsBatch (file lines : List ℕ) (n : ℕ) (ts : List TextTriple) : Type 0 where
  pub counted : n ≡ length ts
  pub stand : LinesAt file lines n ts

-- ---- what naming it did

-- All its texts have terms: the dictionary has the entries es with its texts, and the rows are its triples.
pub record AllNamed (es : List Entry) (ts : List TextTriple) (bs : List ℕ) (f : Filled) (ws : List ℕ) : Type 0 where
  pub filled : FilledBy bs f (with_all es ts)
  pub rows : first_rows (length ts) ws ≡ map (triple_of (with_all es ts)) ts

-- Question 14 says no to some entries in a dictionary of len bytes: they are longer, or a kind has too few numbers.
abbrev pub DoNotFit : ℕ → List Entry → Type 0
DoNotFit len es = (leb (length (bytes_of_entries es)) len && are_numbers_enough es) ≡ false

-- The dictionary has the entries es and perhaps more, and with the texts of some triples they do not fit.
pub record TextsLackSpace (es : List Entry) (ts : List TextTriple) (bs : List ℕ) (f : Filled) : Type 0 where
  pub more : List Entry
  pub filled : FilledBy bs f (es ++ more)
  pub lacks : DoNotFit (length bs) (with_all es ts)

-- ---- segments

-- The texts of a batch were looked for in the entries before a byte index. The dictionary had the entries es and has perhaps more; with all
-- texts of the batch they are the same.
pub record Looked (es : List Entry) (ts : List TextTriple) (bs : List ℕ) (first : ℕ) (f : Filled) (ws : List ℕ) : Type 0 where
  pub before : List Entry
  pub behind : List Entry
  pub more : List Entry
  pub filled : FilledBy bs f (before ++ behind)
  pub starts : first ≡ length (bytes_of_entries before)
  pub grown : before ++ behind ≡ es ++ more
  pub same : with_all (before ++ behind) ts ≡ with_all es ts
  pub words : AreWords before (before ++ behind) (lines_texts ts) ws

-- They were, for some entries and a batch that is noted, with three words for each line.
pub record CanLook (bs : List ℕ) (first : ℕ) (f : Filled) (file lines : List ℕ) (n : ℕ) (ws : List ℕ) : Type 0 where
  pub old : List Entry
  pub triples : List TextTriple
  pub batch : IsBatch file lines n triples
  pub looked : Looked old triples bs first f ws
  pub noted : n ≤ length lines
  pub room : n * 3 ≤ length ws

-- The same, and the last segment of the dictionary begins there, with an index of enough slots.
pub record CanNameLast (slots bs : List ℕ) (first : ℕ) (l : Last) (file lines : List ℕ) (n : ℕ) (ws : List ℕ) : Type 0 where
  pub can : CanLook bs first l.filled file lines n ws
  pub last : LastSegment slots bs first l.count l.filled can.looked.before can.looked.behind
  pub enough : 65536 ≤ length slots

-- What naming a batch in the segment that begins at first did: all texts have terms; or the entries do not fit; or the texts were looked for
-- in the segment's entries too, of which there is at least one.
abbrev pub IsSegmentStep : (es : List Entry) (ts : List TextTriple) (bs : List ℕ) (first : ℕ) (ws : List ℕ) → Step → Type 0
IsSegmentStep es ts bs first ws (Done f) = AllNamed es ts bs f ws
IsSegmentStep es ts bs first ws (Lacks f) = TextsLackSpace es ts bs f
IsSegmentStep es ts bs first ws (Next end f) = (first < end) × (end ≤ length bs) × Looked es ts bs end f ws
