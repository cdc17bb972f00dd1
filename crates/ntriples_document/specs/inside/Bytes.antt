-- A line of decoded bytes, and the number of a document's triples. Definitions only.
use Rattle.std.specs.Prelude.{ℕ, ◌+◌, length, Option, Some, None}
use Rattle.spec_ntriples.specs.computed.Decoded.{Decoded, broken, decoded}
use Rattle.spec_ntriples.specs.computed.Lines.{Line, wrong, read_line, Document, refused, triples}

-- The line of decoded bytes: wrong where they are broken.
unfoldable pub line_of : Decoded → Line
line_of broken = wrong
line_of (decoded l) = read_line l

-- How many triples a document has, or nothing where it is refused.
unfoldable pub count_of : Document → Option ℕ
count_of refused = None
count_of (triples ts) = Some (length ts)

-- So many more.
unfoldable pub added : ℕ → Option ℕ → Option ℕ
added n None = None
added n (Some m) = Some (n + m)
