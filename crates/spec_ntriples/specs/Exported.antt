-- What the exported reading gives: numbers and bytes (include/families.h). Definitions only.
use Rattle.std.specs.Prelude.{ℕ, List}
use Rattle.spec.specs.Outputs.{reply_number, reply_count}
use Rattle.spec_ntriples.specs.Reading.{ReadFile}

-- The number of a reply, the length of the delivery, and the bytes of the dictionary and of the delivery.
abbrev pub file_read : ℕ → ℕ → List ℕ → List ℕ → ℕ × ℕ × List ℕ × List ℕ
file_read n l d m = (n, l, d, m)

-- "0, or the refusing number; length: the bytes of the delivery, 0 when refused."
abbrev pub numbered_reading : ReadFile → ℕ × ℕ × List ℕ × List ℕ
numbered_reading r = file_read (reply_number r.reply) (reply_count r.reply) r.dictionary r.delivery
