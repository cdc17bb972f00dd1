-- A batch of lines named in a whole dictionary. Definitions only.
use Rattle.std.specs.Prelude.{ℕ, ◌*◌, ◌≤◌, List, length, Result, Ok, Err}
use Rattle.spec_ntriples.specs.Texts.{TextTriple}
use Rattle.spec_ntriples.specs.Dictionary.{Entry}
use Rattle.dictionary_bytes.specs.declared.Filled.{Filled}
use Rattle.dictionary_bytes.specs.inside.Entries.{FilledBy}
use Rattle.ntriples_last.specs.inside.Segments.{IsBatch, AllNamed, TextsLackSpace}
use Rattle.ntriples_segments.specs.declared.NoSpace.{NoSpace}

-- All texts of a batch have terms, or they lack space.
abbrev pub IsBatched : (es : List Entry) (ts : List TextTriple) (bs ws : List ℕ) → Result Filled NoSpace → Type 0
IsBatched es ts bs ws (Ok f) = AllNamed es ts bs f ws
IsBatched es ts bs ws (Err s) = TextsLackSpace es ts bs s.filled

-- The dictionary has some entries; a batch is noted, with three words for each line.
pub record CanNameBatch (bs : List ℕ) (f : Filled) (file lines : List ℕ) (n : ℕ) (ws : List ℕ) : Type 0 where
  pub old : List Entry
  pub triples : List TextTriple
  pub batch : IsBatch file lines n triples
  pub filled : FilledBy bs f old
  pub noted : n ≤ length lines
  pub room : n * 3 ≤ length ws
