-- Answers and replies as numbers. Assumes nothing.
use Prim.Native.Nat.{ℕ}
use mathlib.Core.Path.{◌≡◌, ap}
use mathlib.Core.List.{List}
use Rattle.spec.specs.Outputs.{Replied, replied, reply_number, reply_count, Reply}
use Rattle.spec.specs.declared.Answer.{Answer}
use Rattle.spec.specs.Tables.{Tables}
use Rattle.spec.specs.Updates.{answer_number}
use Rattle.spec.specs.inside.Pairs.{outcome}
use Rattle.spec.specs.declared.Delivered.{Delivered}
use Rattle.spec.specs.Exported.{updated, numbered_outcome, received, result_words, numbered_delivery, listed, numbered_reply}
use Rattle.spec_ntriples.specs.Reading.{ReadFile, read_file}
use Rattle.spec_ntriples.specs.Exported.{file_read, numbered_reading}
use Rattle.spec_writing.specs.Writing.{Written, written}
use Rattle.spec_writing.specs.Exported.{lines_written, numbered_writing}

-- An update's number and tables are those of its outcome.
pub update_numbered : (a : Answer) (n : ℕ) (T : Tables) (o : Answer × Tables) → n ≡ answer_number a → outcome a T ≡ o → updated n T ≡ numbered_outcome o
update_numbered a n T o e h = rw e (ap numbered_outcome h)

-- A reply's number, count and words are those of what was replied.
pub reply_numbered : (p : Reply) (n c : ℕ) (ws : List ℕ) (o : Replied) → n ≡ reply_number p → c ≡ reply_count p → replied p ws ≡ o → listed n c ws ≡ numbered_reply o
reply_numbered p n c ws o e f h = rw (e, f) (ap numbered_reply h)

-- A delivery's number, result and tables are those of what was delivered.
pub delivery_numbered : (d : Delivered) (n : ℕ) (ws : List ℕ) (T : Tables) (o : Delivered × Tables) → n ≡ d.refusal → ws ≡ result_words d → (d, T) ≡ o → received n ws T ≡ numbered_delivery o
delivery_numbered d n ws T o e f h = rw (e, f) (ap numbered_delivery h)

-- A reading's number, length and bytes are those of what was read.
pub reading_numbered : (p : Reply) (n l : ℕ) (d m : List ℕ) (o : ReadFile) → n ≡ reply_number p → l ≡ reply_count p → read_file p d m ≡ o → file_read n l d m ≡ numbered_reading o
reading_numbered p n l d m o e f h = rw (e, f) (ap numbered_reading h)

-- A writing's number, length and bytes are those of what was written.
pub writing_numbered : (p : Reply) (n l : ℕ) (bs : List ℕ) (o : Written) → n ≡ reply_number p → l ≡ reply_count p → written p bs ≡ o → lines_written n l bs ≡ numbered_writing o
writing_numbered p n l bs o e f h = rw (e, f) (ap numbered_writing h)
