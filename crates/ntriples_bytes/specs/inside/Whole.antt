-- Whether bytes are UTF-8, byte by byte. Definitions only.
use Rattle.std.specs.Prelude.{ℕ, Bool, true, false, List, Option, Some, None}
use Rattle.spec_ntriples.specs.computed.Decoded.{Decoded, broken, decoded, due, decode_from}
use Rattle.ntriples_bytes.specs.declared.Due.{Due}

-- Whether decoding gives characters.
unfoldable pub are_chars : Decoded → Bool
are_chars broken = false
are_chars (decoded cs) = true

-- Whether an open character and the bytes behind it are characters; the number so far says nothing of that.
unfoldable pub are_chars_from : List ℕ → Option Due → Bool
are_chars_from bs None = false
are_chars_from bs (Some d) = are_chars (decode_from bs (due d.left 0 d.low d.high))
