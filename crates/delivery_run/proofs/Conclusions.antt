-- What a delivery comes to, by the answers to its questions. Assumes nothing.
use Prim.Native.Nat.{ℕ}
use mathlib.Core.Path.{◌≡◌, refl, sym, ap, ◌∙◌}
use mathlib.Core.Bool.{true, false}
use mathlib.Core.List.{List}
use Rattle.spec.specs.Refusals.{first_refusal}
use Rattle.spec.specs.Tables.{Tables, are_formed}
use Rattle.spec.specs.Updates.{update}
use Rattle.spec.specs.Deliveries.{are_sections_right, is_number_right, number_fields, number_of, tally, run_message, delivered, conclude, deliver}
use Rattle.spec.specs.inside.Pairs.{progress}
use Rattle.spec.specs.computed.Decoded.{read, is_whole}
use Rattle.spec.specs.declared.Tally.{Tally}
use Rattle.spec.specs.declared.Delivered.{Delivered}

module _ (T : Tables) (bs : List ℕ) where
  -- The tables are malformed,
  pub refused_by_tables : (r : Delivered) → are_formed T ≡ false → r ≡ delivered 1 0 (tally 0 0 0) → (r, T) ≡ deliver T bs
  unfolding deliver conclude first_refusal
  refused_by_tables r e q = rw (q, e) refl

  -- the delivery is not whole,
  pub refused_by_length : (r : Delivered) → are_formed T ≡ true → is_whole bs ≡ false → r ≡ delivered 9 0 (tally 0 0 0) → (r, T) ≡ deliver T bs
  unfolding deliver conclude first_refusal
  refused_by_length r e f q = rw (q, e, f) refl

  -- an entry is wrong in its section,
  pub refused_by_section : (r : Delivered) → are_formed T ≡ true → is_whole bs ≡ true → are_sections_right (read bs) ≡ false → r ≡ delivered 10 0 (tally 0 0 0) → (r, T) ≡ deliver T bs
  unfolding deliver conclude first_refusal
  refused_by_section r e f g q = rw (q, e, f, g) refl

  -- or the delivery number is wrong.
  pub refused_by_number : (r : Delivered) → are_formed T ≡ true → is_whole bs ≡ true → are_sections_right (read bs) ≡ true → is_number_right (number_fields (read bs).fields) ≡ false → r ≡ delivered 11 0 (tally 0 0 0) → (r, T) ≡ deliver T bs
  unfolding deliver conclude first_refusal
  refused_by_number r e f g h q = rw (q, e, f, g, h) refl

  -- Where every answer is yes, the entries are run.
  runs : are_formed T ≡ true → is_whole bs ≡ true → are_sections_right (read bs) ≡ true → is_number_right (number_fields (read bs).fields) ≡ true
      → deliver T bs ≡ (delivered 0 (number_of (number_fields (read bs).fields)) (run_message update (read bs) (progress T (tally 0 0 0))).1, (run_message update (read bs) (progress T (tally 0 0 0))).0)
  unfolding deliver conclude first_refusal
  runs e f g h = rw (e, f, g, h) refl

  pub accepted : {T' : Tables} {y : Tally} (n : ℕ) → are_formed T ≡ true → is_whole bs ≡ true → are_sections_right (read bs) ≡ true → is_number_right (number_fields (read bs).fields) ≡ true
      → n ≡ number_of (number_fields (read bs).fields) → progress T' y ≡ run_message update (read bs) (progress T (tally 0 0 0)) → (delivered 0 n y, T') ≡ deliver T bs
  accepted n e f g h q r =
      ap (λ (p : Tables × Tally). (delivered 0 n p.1, p.0)) r
      ∙ ap (λ (m : ℕ). (delivered 0 m (run_message update (read bs) (progress T (tally 0 0 0))).1, (run_message update (read bs) (progress T (tally 0 0 0))).0)) q
      ∙ sym (runs e f g h)
