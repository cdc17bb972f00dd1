-- The index of a segment by the segment's entries. Definitions only.
use Rattle.std.specs.Prelude.{ℕ, ◌≡◌, List, length}
use Rattle.spec_ntriples.specs.Dictionary.{Entry}
use Rattle.dictionary_bytes.specs.inside.Entries.{entries_at}
use Rattle.dictionary_index.specs.inside.Index.{Index}

-- The slots are the index of some entries, which stand in the bytes from first on.
pub record IndexOf (slots bs : List ℕ) (first : ℕ) (es : List Entry) : Type 0 where
  pub index : Index slots bs first (length es)
  pub same : entries_at bs first (length es) ≡ es
