-- What is printed for a file: one that is too long, and one that was read, by the reply. Assumes nothing.
use Rattle.spec.specs.Outputs.{Reply}
use Rattle.std.specs.Prelude.{Ok, Err}
use Prim.Native.Nat.{ℕ, ◌≤◌, ◌<◌}
use mathlib.Core.Path.{◌≡◌, refl, sym, ap, ◌∙◌}
use mathlib.Core.List.{List}
use native.Mathlib.Omega.{arith}
use lib.ListN.{length}
use borrow.Author.Tests.{le-leb, lt-leb}
use Rattle.spec.specs.Messages.{most_bytes}
use Rattle.spec_ntriples.specs.Reading.{ReadFile, read_file, read_nTriples}
use Rattle.spec_ntriples.specs.Promises.{Accepted}
use Rattle.spec_ntriples.proofs.ReadingRefused.{reading_accepted}
use Rattle.report_text.specs.Text.{refusal_text}
use Rattle.report_text.specs.inside.Appended.{Appended}
use Rattle.report_input.specs.Input.{most_input, too_long}
use Rattle.report_reading.specs.declared.Printed.TheVariants.{Output, Errors}
use Rattle.report_reading.specs.Printing.{errors, printed, empty_dictionary, printed_reply, printed_for}

-- A text that stands alone is what is printed of it.
printed-text : {text out out' : List ℕ} {end : ℕ} → Appended text 0 out out' end → printed (Errors end) out' ≡ errors text
unfolding printed
printed-text A = ap errors A.start_and_text

-- A file that is too long.
pub too_long-printed : (file : List ℕ) {out out' : List ℕ} {end : ℕ} → most_input < length file → Appended too_long 0 out out' end → printed (Errors end) out' ≡ printed_for file
unfolding printed_for
too_long-printed file h A = printed-text A ∙ sym (rw (lt-leb (length file) most_input h) refl)

-- A file that was read.
module _ (file : List ℕ) (r : Reply) {d₀ d m : List ℕ} {len : ℕ} (short : length file ≤ most_input) (zeros : d₀ ≡ empty_dictionary)
    (whole : len ≡ most_bytes) (is : read_file r d m ≡ read_nTriples d₀ file len) where
  pub is_read : read_file r d m ≡ read_nTriples empty_dictionary file most_bytes
  is_read = is ∙ ap (λ (bs : List ℕ). read_nTriples bs file len) zeros ∙ ap (read_nTriples empty_dictionary file) whole

  printed_is : printed_for file ≡ printed_reply r m
  unfolding printed_for
  printed_is = rw (le-leb (length file) most_input short) (ap (λ (f : ReadFile). printed_reply f.reply f.delivery) (sym is_read))

  -- Its delivery.
  pub delivery-printed : (n : ℕ) → r ≡ Ok n → printed (Output n) m ≡ printed_for file
  unfolding printed printed_reply
  delivery-printed n e = sym (printed_is ∙ ap (λ (s : Reply). printed_reply s m) e)

  pub delivery_room : (n : ℕ) → r ≡ Ok n → n ≤ most_bytes
  delivery_room n e =
      let A : Accepted empty_dictionary file most_bytes n = (reading_accepted empty_dictionary file most_bytes n).0 (sym (ap (λ (f : ReadFile). f.reply) is_read) ∙ e) in
      omega (arith, A.room, A.size)

  -- The number that refused it.
  pub refusal-printed : {out out' : List ℕ} {end : ℕ} (n : ℕ) → r ≡ Err n → Appended (refusal_text n) 0 out out' end → printed (Errors end) out' ≡ printed_for file
  unfolding printed_reply
  refusal-printed n e A = printed-text A ∙ sym (printed_is ∙ ap (λ (s : Reply). printed_reply s m) e)
