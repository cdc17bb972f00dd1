-- What is printed for a file: of a delivery, and of a reading, by their replies. Assumes nothing.
use Rattle.spec.specs.Outputs.{Reply}
use Rattle.std.specs.Prelude.{Ok, Err}
use Prim.Native.Nat.{ℕ, ◌≤◌, ◌<◌}
use mathlib.Core.Path.{◌≡◌, refl, sym, ap, ◌∙◌}
use mathlib.Core.List.{List}
use lib.ListN.{length, take, replicate}
use borrow.Author.Tests.{le-leb, lt-leb, eq-eqb, ne_eqb}
use Rattle.spec.specs.Tables.{Tables, tables}
use Rattle.spec.specs.Messages.{most_bytes}
use Rattle.spec.specs.declared.Delivered.{Delivered}
use Rattle.spec.specs.Deliveries.{deliver}
use Rattle.spec_ntriples.specs.Reading.{ReadFile, read_file, read_nTriples}
use Rattle.spec_writing.specs.Writing.{write_kept}
use Rattle.report_text.specs.Text.{refusal_text}
use Rattle.report_text.specs.inside.Appended.{Appended}
use Rattle.report_input.specs.Input.{most_input, too_long}
use Rattle.report_reading.specs.Printing.{empty_dictionary}
use Rattle.report_reading.proofs.Responding.{is_read}
use Rattle.report_printout.specs.Printout.{Printout, printout}
use Rattle.report_printout.proofs.Refusing.{errors_only, refusal-printed}
use Rattle.report_kept_lines.specs.Lines.{most_output, printed_written}
use Rattle.report_kept.specs.Printing.{empty_store, printed_result, printed_read, printed_from}

-- The result d of a delivery of the bytes bs to the empty store, and the words of the tables after it.
module _ (bs D : List ℕ) (d : Delivered) (S F K U : List ℕ) {s f k u : List ℕ}
    (es : s ≡ replicate 1537 0) (ef : f ≡ replicate 16381 0) (ek : k ≡ replicate 98305 0) (eu : u ≡ replicate 32768 0)
    (is : (d, tables S F K U) ≡ deliver (tables s f k u) bs) where
  is_delivered : (d, tables S F K U) ≡ deliver empty_store bs
  is_delivered = is ∙ ap (λ (T : Tables). deliver T bs) (λ i. tables (es i) (ef i) (ek i) (eu i))

  result_is : printed_result D (deliver empty_store bs) ≡ printed_result D (d, tables S F K U)
  result_is = ap (printed_result D) (sym is_delivered)

  -- The number that refused it,
  pub delivery_refused : {errors errors' : List ℕ} {o end : ℕ} (out : List ℕ) → ¬ (d.refusal ≡ 0) → o ≡ 0 → Appended (refusal_text d.refusal) 0 errors errors' end
      → printout (take o out) (take end errors') ≡ printed_result D (deliver empty_store bs)
  unfolding printed_result
  delivery_refused out n z A = refusal-printed d.refusal out z A ∙ sym (result_is ∙ rw (ne_eqb d.refusal 0 n) refl)

  -- or what was written of the kept facts.
  pub delivery-printed : {p : Printout} → d.refusal ≡ 0 → p ≡ printed_written d (write_kept K D most_output) → p ≡ printed_result D (deliver empty_store bs)
  unfolding printed_result
  delivery-printed z e = e ∙ sym (result_is ∙ rw (eq-eqb d.refusal 0 z) refl)

-- A file that is too long.
pub too_long-printed : (file : List ℕ) {errors errors' : List ℕ} {end : ℕ} (out : List ℕ) → most_input < length file → Appended too_long 0 errors errors' end
    → printout (take 0 out) (take end errors') ≡ printed_from file
unfolding printed_from
too_long-printed file out h A = errors_only out refl A ∙ sym (rw (lt-leb (length file) most_input h) refl)

-- A file that was read.
module _ (file : List ℕ) (r : Reply) {d₀ D m : List ℕ} {len : ℕ} (short : length file ≤ most_input) (zeros : d₀ ≡ empty_dictionary)
    (whole : len ≡ most_bytes) (is : read_file r D m ≡ read_nTriples d₀ file len) where
  read_is : printed_from file ≡ printed_read r D m
  unfolding printed_from
  read_is =
      rw (le-leb (length file) most_input short)
      (ap (λ (f : ReadFile). printed_read f.reply f.dictionary f.delivery) (sym (is_read file r short zeros whole is)))

  -- What is printed of its delivery,
  pub read-printed : {p : Printout} (n : ℕ) → r ≡ Ok n → p ≡ printed_result D (deliver empty_store (take n m)) → p ≡ printed_from file
  unfolding printed_read
  read-printed n e h = h ∙ sym (read_is ∙ ap (λ (s : Reply). printed_read s D m) e)

  -- or the number that refused it.
  pub read_refused : {errors errors' : List ℕ} {o end : ℕ} (out : List ℕ) (n : ℕ) → r ≡ Err n → o ≡ 0 → Appended (refusal_text n) 0 errors errors' end
      → printout (take o out) (take end errors') ≡ printed_from file
  unfolding printed_read
  read_refused out n e z A = refusal-printed n out z A ∙ sym (read_is ∙ ap (λ (s : Reply). printed_read s D m) e)
