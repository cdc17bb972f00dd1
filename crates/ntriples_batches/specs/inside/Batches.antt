-- A file whose texts get their terms batch by batch. Definitions only.
use Rattle.std.specs.Prelude.{ℕ, ◌≤◌, ◌≡◌, List, map, length, Result, Ok, Err}
use Rattle.spec.specs.Tables.{first_rows}
use Rattle.spec_ntriples.specs.Texts.{TextTriple}
use Rattle.spec_ntriples.specs.computed.Lines.{triples, document}
use Rattle.spec_ntriples.specs.Dictionary.{Entry}
use Rattle.spec_ntriples.specs.Reading.{with_all, triple_of}
use Rattle.dictionary_bytes.specs.declared.Filled.{Filled}
use Rattle.dictionary_bytes.specs.inside.Entries.{FilledBy}
use Rattle.ntriples_segments.specs.declared.NoSpace.{NoSpace}
use Rattle.ntriples_last.specs.inside.Segments.{TextsLackSpace}

-- The file is a document of n triples; the dictionary has some entries; and there are words for the triples of a batch.
pub record CanNameFile (file : List ℕ) (n : ℕ) (bs : List ℕ) (f : Filled) (ws : List ℕ) : Type 0 where
  pub lines : List TextTriple
  pub said : document file ≡ triples lines
  pub counted : n ≡ length lines
  pub old : List Entry
  pub filled : FilledBy bs f old
  pub room : 16380 ≤ length ws

-- All texts of a file have terms: the dictionary has the entries es with them; and where a delivery has room for its triples, the rows are
-- these.
pub record FileNamed (es : List Entry) (ts : List TextTriple) (bs : List ℕ) (f : Filled) (ws : List ℕ) : Type 0 where
  pub filled : FilledBy bs f (with_all es ts)
  pub rows : length ts ≤ 5460 → first_rows (length ts) ws ≡ map (triple_of (with_all es ts)) ts

-- They have; or the entries with them do not fit.
abbrev pub IsFile : (es : List Entry) (ts : List TextTriple) (bs ws : List ℕ) → Result Filled NoSpace → Type 0
IsFile es ts bs ws (Ok f) = FileNamed es ts bs f ws
IsFile es ts bs ws (Err s) = TextsLackSpace es ts bs s.filled
