-- Entries that can be written, and bytes of a dictionary that hold entries. Definitions only.
use Rattle.std.specs.Prelude.{ℕ, ◌^◌, ◌<◌, ◌≡◌, List, length}
use Rattle.spec.specs.inside.Each.{Each}
use Rattle.spec_ntriples.specs.Dictionary.{Entry, bytes_of_entries, dictionary_bytes}

-- An entry that can be written: a term of 32 bits that is not 0, and a length of 64.
pub record Writable (e : Entry) : Type 0 where
  pub some : 0 < e.term
  pub word : e.term < 2 ^ 32
  pub size : length e.text < 2 ^ 64

-- The bytes of a dictionary hold some entries, which end at a byte index; zeros follow.
pub record Holds (bs : List ℕ) (end : ℕ) (es : List Entry) : Type 0 where
  pub same : bs ≡ dictionary_bytes (length bs) es
  pub ends : end ≡ length (bytes_of_entries es)
  pub writable : Each Writable es
