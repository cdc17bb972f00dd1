-- Lines that have a triple, by where they begin. Definitions only.
use Rattle.std.specs.Prelude.{ℕ, ◌+◌, ◌≤◌, ◌<◌, min, ◌≡◌, Bool, true, false, List, [], length, get_or, take, drop}
use Rattle.spec_ntriples.specs.computed.Decoded.{decode}
use Rattle.spec_ntriples.specs.Texts.{text, TextTriple}
use Rattle.spec_ntriples.specs.computed.Lines.{Line, wrong, empty, full, triples, document}
use Rattle.ntriples_bytes.specs.inside.Places.{HasText}
use Rattle.ntriples_lines.specs.declared.Tokens.{Tokens}
use Rattle.ntriples_breaks.specs.inside.Breaks.{line_length}
use Rattle.ntriples_document.specs.inside.Bytes.{line_of}
use Rattle.ntriples_batch.specs.declared.Batch.{Batch}

-- Whether a line has a triple.
unfoldable pub has_triple : Line → Bool
has_triple wrong = false
has_triple empty = false
has_triple (full t) = true

-- From a byte index on, up to the first CR or LF or the end, stands a line that reads as a triple.
pub record LineAt (file : List ℕ) (begin : ℕ) (t : TextTriple) : Type 0 where
  pub within : begin ≤ length file
  pub reads : line_of (decode (take (line_length (drop begin file)) (drop begin file))) ≡ full t

-- Some triple stands in a line, from a byte index up to another.
pub record IsLineOfTriple (file : List ℕ) (begin end : ℕ) : Type 0 where
  pub triple : TextTriple
  pub line : LineAt file begin triple
  pub ends : end ≡ begin + line_length (drop begin file)

-- What is read past the last of some triples: no texts.
abbrev pub no_triple : TextTriple
no_triple = record { subject = text 0 []; property = text 0 []; object = text 0 [] }

-- The first triples of some, as many as there are places, stand in lines that begin at the noted indices; the others stand behind.
pub record Gathered (file : List ℕ) (ts : List TextTriple) (lines : List ℕ) (r : Batch) : Type 0 where
  pub counted : r.count ≡ min (length lines) (length ts)
  pub begins : (i : ℕ) → i < r.count → LineAt file (get_or lines i 0) (get_or ts i no_triple)
  pub behind : document (drop r.next file) ≡ triples (drop r.count ts)

-- The places of a triple's terms in a line: the texts there are its texts.
pub record HaveTexts (line : List ℕ) (k : Tokens) (t : TextTriple) : Type 0 where
  pub subject : HasText line k.subject.from k.subject.end t.subject
  pub property : HasText line k.property.from k.property.end t.property
  pub object : HasText line k.object.from k.object.end t.object
