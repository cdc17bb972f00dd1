-- What the program `kept_ntriples` prints for the bytes of a file (document 02, slips 1 and 3). Definitions only.
use Rattle.std.specs.Prelude.{ℕ, cond, List, [], length, take, replicate, eqb, leb, Ok, Err}
use Rattle.spec.specs.Outputs.{Reply}
use Rattle.spec.specs.Tables.{Tables, tables}
use Rattle.spec.specs.Messages.{most_bytes}
use Rattle.spec.specs.declared.Delivered.{Delivered}
use Rattle.spec.specs.Deliveries.{deliver}
use Rattle.spec_ntriples.specs.Reading.{read_nTriples}
use Rattle.spec_writing.specs.Writing.{write_kept}
use Rattle.report_input.specs.Input.{most_input, too_long}
use Rattle.report_reading.specs.Printing.{empty_dictionary}
use Rattle.report_printout.specs.Printout.{Printout, printout, refusal}
use Rattle.report_kept_lines.specs.Lines.{most_output, printed_written}

-- The empty store of the program: room for 512 statements, for as many facts as a delivery has entries (5,460), and for 32,768 kept facts.
abbrev pub empty_store : Tables
empty_store = tables (replicate 1537 0) (replicate 16381 0) (replicate 98305 0) (replicate 32768 0)

-- What is printed of a delivery's result and the store's words after it: the kept facts are written with a dictionary,
unfoldable pub printed_result : List ℕ → Delivered × Tables → Printout
printed_result dictionary r =
    cond (eqb r.0.refusal 0) (printed_written r.0 (write_kept r.1.kept dictionary most_output)) (refusal r.0.refusal)

-- of a file that was read, by the reply, the dictionary and the delivery, which is delivered to the empty store,
unfoldable pub printed_read : Reply → List ℕ → List ℕ → Printout
printed_read (Ok n) dictionary delivery = printed_result dictionary (deliver empty_store (take n delivery))
printed_read (Err n) dictionary delivery = refusal n

-- and of any file: it is read with the empty dictionary into a delivery of the most bytes.
unfoldable pub printed_from : List ℕ → Printout
printed_from file =
    let r = read_nTriples empty_dictionary file most_bytes in
    cond (leb (length file) most_input) (printed_read r.reply r.dictionary r.delivery) (printout [] too_long)
