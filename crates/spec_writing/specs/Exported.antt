-- What the exported functions that write rows give: numbers and bytes (include/families.h). Definitions only.
use Rattle.std.specs.Prelude.{ℕ, List}
use Rattle.spec.specs.Outputs.{reply_number, reply_count}
use Rattle.spec_writing.specs.Writing.{Written}

-- The number of a reply, the length of the lines, and the bytes of the output.
abbrev pub lines_written : ℕ → ℕ → List ℕ → ℕ × ℕ × List ℕ
lines_written n l bs = (n, l, bs)

-- "0, or the refusing number; length: the bytes written, 0 when refused."
abbrev pub numbered_writing : Written → ℕ × ℕ × List ℕ
numbered_writing w = lines_written (reply_number w.reply) (reply_count w.reply) w.bytes
