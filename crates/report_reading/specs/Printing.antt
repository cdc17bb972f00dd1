-- What the program `read_ntriples` prints for the bytes of a file (document 02, slip 1; for the longest file docs/DECISIONS.md, 75).
-- Definitions only.
use Rattle.std.specs.Prelude.{ℕ, cond, List, length, take, replicate, leb, Ok, Err}
use Rattle.spec.specs.Outputs.{Reply}
use Rattle.spec.specs.Messages.{most_bytes}
use Rattle.spec_ntriples.specs.Reading.{read_nTriples}
use Rattle.report_text.specs.Text.{refusal_text}
use Rattle.report_input.specs.Input.{most_input, too_long}
use Rattle.report_reading.specs.declared.Printed.{Printed}
use Rattle.report_reading.specs.declared.Printed.TheVariants.{Output, Errors}

-- The bytes that are printed, on standard output or on standard error; nothing is printed on the other.
pub data Stream : Type 0 where
  output : List ℕ → Stream
  errors : List ℕ → Stream

-- What is printed of some bytes: so many from the first on.
unfoldable pub printed : Printed → List ℕ → Stream
printed (Output n) bytes = output (take n bytes)
printed (Errors n) bytes = errors (take n bytes)

-- How many bytes that is.
abbrev pub printed_length : Printed → ℕ
printed_length (Output n) = n
printed_length (Errors n) = n

-- A dictionary of 1 MiB, without entries.
abbrev pub empty_dictionary : List ℕ
empty_dictionary = replicate 1048576 0

-- What is printed for a file that was read, by the reply and the delivery (the bytes of the delivery, or the word refused and the number),
unfoldable pub printed_reply : Reply → List ℕ → Stream
printed_reply (Ok n) delivery = output (take n delivery)
printed_reply (Err n) delivery = errors (refusal_text n)

-- and for any: it is read with that dictionary into a delivery of the most bytes.
unfoldable pub printed_for : List ℕ → Stream
printed_for file =
    let r = read_nTriples empty_dictionary file most_bytes in
    cond (leb (length file) most_input) (printed_reply r.reply r.delivery) (errors too_long)
