-- What is printed of kept facts that were written, by the reply. Assumes nothing.
use Rattle.spec.specs.Outputs.{Reply}
use Rattle.std.specs.Prelude.{Ok, Err}
use Prim.Native.Nat.{ℕ, ◌≤◌}
use mathlib.Core.Path.{◌≡◌, sym, ap, ◌∙◌}
use mathlib.Core.List.{List}
use native.Mathlib.Omega.{arith}
use lib.ListN.{take}
use Rattle.spec.specs.Tables.{is_kept_table}
use Rattle.spec.specs.declared.Delivered.{Delivered}
use Rattle.spec_writing.specs.Writing.{Written, written, write_kept}
use Rattle.spec_writing.specs.WritingPromises.{WritingAccepted}
use Rattle.spec_writing.proofs.WritingRefused.{writing_accepted}
use Rattle.report_text.specs.Text.{result_line, refusal_text}
use Rattle.report_text.specs.inside.Appended.{Appended}
use Rattle.report_printout.specs.Printout.{printout}
use Rattle.report_printout.proofs.Refusing.{refusal-printed}
use Rattle.report_kept_lines.specs.Lines.{most_output, printed_kept, printed_written}

-- The kept facts K of a result d, written with the dictionary D.
module _ (d : Delivered) (K D : List ℕ) (r : Reply) {out : List ℕ} {len : ℕ} (whole : len ≡ most_output) (is : written r out ≡ write_kept K D len) where
  is_written : written r out ≡ write_kept K D most_output
  is_written = is ∙ ap (write_kept K D) whole

  written_is : printed_written d (write_kept K D most_output) ≡ printed_kept d r out
  written_is = ap (printed_written d) (sym is_written)

  -- Their lines,
  pub lines-printed : {errors errors' : List ℕ} {end : ℕ} (n : ℕ) → r ≡ Ok n → Appended (result_line d) 0 errors errors' end
      → printout (take n out) (take end errors') ≡ printed_written d (write_kept K D most_output)
  unfolding printed_kept
  lines-printed n e A = ap (printout (take n out)) A.start_and_text ∙ sym (written_is ∙ ap (λ (s : Reply). printed_kept d s out) e)

  pub lines_room : (n : ℕ) → r ≡ Ok n → n ≤ most_output
  unfolding write_kept
  lines_room n e =
      let A : WritingAccepted (is_kept_table K) K D most_output n = (writing_accepted (is_kept_table K) K D most_output n).0 (sym (ap (λ (w : Written). w.reply) is_written) ∙ e) in
      omega (arith, A.room, A.size)

  -- or the number that refused them.
  pub lines_refused : {errors errors' : List ℕ} {o end : ℕ} (n : ℕ) → r ≡ Err n → o ≡ 0 → Appended (refusal_text n) 0 errors errors' end
      → printout (take o out) (take end errors') ≡ printed_written d (write_kept K D most_output)
  unfolding printed_kept
  lines_refused n e z A = refusal-printed n out z A ∙ sym (written_is ∙ ap (λ (s : Reply). printed_kept d s out) e)
