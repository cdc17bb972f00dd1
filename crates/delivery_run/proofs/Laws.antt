-- Laws of deliveries: what a refused one leaves, what the tallies add up to, and what unknown fields change. Assumes nothing.
use Prim.Native.Nat.{ℕ, zero, suc, ◌+◌}
use mathlib.Core.Path.{◌≡◌, refl, ap, ◌∙◌}
use mathlib.Core.Bool.{true}
use mathlib.Core.List.{List, ◌∷◌}
use native.Mathlib.Omega.{arith}
use lib.ListN.{length}
use Rattle.spec.specs.declared.Tally.{Tally}
use Rattle.spec.specs.Refusals.{first_refusal}
use Rattle.spec.specs.Tables.{Tables, are_formed}
use Rattle.spec.specs.declared.Change.TheVariants.{Addition, Withdrawal}
use Rattle.spec.specs.Updates.{update}
use Rattle.spec.specs.Deliveries.{number_fields, number_of, tally, Update, run_entries, run_message, delivered, message_checks, conclude, deliver}
use Rattle.spec.specs.inside.Pairs.{progress}
use Rattle.spec.specs.Messages.{Message}
use Rattle.spec.specs.computed.Decoded.{read, is_whole}
use Rattle.delivery_format.specs.inside.Encodable.{Agree}
use Rattle.delivery_format.proofs.Unknown.{unknown_sections, unknown-number}
use Rattle.delivery_tally.specs.inside.Totals.{total}
use Rattle.delivery_section.proofs.Runs.{run-total}

-- ---- refused deliveries

-- One that is refused whole leaves what holds the triples, with number and tallies 0.
conclude_refused : {A : Type 0} (f : Update A) (q : ℕ) (m : Message) (h : A) (n : ℕ) → (conclude f q m h).0.refusal ≡ suc n → conclude f q m h ≡ (delivered (suc n) 0 (tally 0 0 0), h)
unfolding conclude
conclude_refused f zero m h n e = absurd (omega arith)
conclude_refused f (suc k) m h n e = ap (λ (i : ℕ). (delivered i 0 (tally 0 0 0), h)) e

-- A refused delivery changes no word and reports zeros.
pub deliver_refused : (T : Tables) (bs : List ℕ) (n : ℕ) → (deliver T bs).0.refusal ≡ suc n → deliver T bs ≡ (delivered (suc n) 0 (tally 0 0 0), T)
unfolding deliver
deliver_refused T bs n e = conclude_refused update (first_refusal ((1, are_formed T) ∷ message_checks bs)) (read bs) T n e

-- ---- tallies

-- The entries of a message.
abbrev pub entry_count : Message → ℕ
entry_count m = length m.statements_withdrawn + length m.facts_withdrawn + length m.statements_added + length m.facts_added

message-total : {A : Type 0} (f : Update A) (m : Message) (h : A) → total (run_message f m (progress h (tally 0 0 0))).1 ≡ entry_count m
unfolding run_message
message-total f m h =
    let g₀ = progress h (tally 0 0 0) in
    let g₁ = run_entries (f Withdrawal) m.statements_withdrawn g₀ in
    let g₂ = run_entries (f Withdrawal) m.facts_withdrawn g₁ in
    let g₃ = run_entries (f Addition) m.statements_added g₂ in
    omega (arith, run-total (f Withdrawal) m.statements_withdrawn g₀, run-total (f Withdrawal) m.facts_withdrawn g₁, run-total (f Addition) m.statements_added g₂, run-total (f Addition) m.facts_added g₃)

conclude-total : {A : Type 0} (f : Update A) (q : ℕ) (m : Message) (h : A) → (conclude f q m h).0.refusal ≡ 0 → (conclude f q m h).0.applied + (conclude f q m h).0.idle + (conclude f q m h).0.refused ≡ entry_count m
unfolding conclude
conclude-total f zero m h e = message-total f m h
conclude-total f (suc k) m h e = absurd (omega arith)

-- The tallies of a delivery that is not refused add up to the number of its entries.
pub deliver-total : (T : Tables) (bs : List ℕ) → (deliver T bs).0.refusal ≡ 0 → (deliver T bs).0.applied + (deliver T bs).0.idle + (deliver T bs).0.refused ≡ entry_count (read bs)
unfolding deliver
deliver-total T bs e = conclude-total update (first_refusal ((1, are_formed T) ∷ message_checks bs)) (read bs) T e

-- ---- unknown fields

module _ {m m' : Message} (S : Agree m m') where
  same-run : {A : Type 0} (f : Update A) (g : A × Tally) → run_message f m g ≡ run_message f m' g
  unfolding run_message
  same-run f g = rw (S.statements_withdrawn, S.facts_withdrawn, S.statements_added, S.facts_added) refl

  same-conclusion : {A : Type 0} (f : Update A) (q : ℕ) (h : A) → conclude f q m h ≡ conclude f q m' h
  unfolding conclude
  same-conclusion f (suc n) h = refl
  same-conclusion {A} f zero h =
      ap (λ (g : A × Tally). (delivered 0 (number_of (number_fields m.fields)) g.1, g.0)) (same-run f (progress h (tally 0 0 0)))
      ∙ ap (λ (n : ℕ). (delivered 0 n (run_message f m' (progress h (tally 0 0 0))).1, (run_message f m' (progress h (tally 0 0 0))).0)) (unknown-number m m' S)

-- Unknown fields change no answer and no word: whole deliveries that say the same but for them do the same.
pub unknown_fields : (T : Tables) (bs cs : List ℕ) → is_whole bs ≡ true → is_whole cs ≡ true → Agree (read bs) (read cs) → deliver T bs ≡ deliver T cs
unfolding deliver
unknown_fields T bs cs e f S =
    let q : first_refusal ((1, are_formed T) ∷ message_checks bs) ≡ first_refusal ((1, are_formed T) ∷ message_checks cs) = rw (e, f, unknown_sections (read bs) (read cs) S, S.numbers) refl in
    rw q (same-conclusion S update (first_refusal ((1, are_formed T) ∷ message_checks cs)) T)
