-- The response to the bytes of a delivery, from what a delivery to an empty store leaves. Assumes nothing.
use Prim.Native.Nat.{ℕ, ◌≤◌}
use mathlib.Core.Path.{◌≡◌, refl, sym, ap, ◌∙◌, subst}
use mathlib.Core.List.{List}
use native.Mathlib.Omega.{arith}
use lib.ListN.{length, replicate, length-replicate}
use borrow.Author.Tests.{eq-eqb, ne_eqb}
use Rattle.spec.specs.Tables.{count, Tables, tables, kept_of}
use Rattle.spec.specs.inside.Laid.{FormedStore}
use Rattle.table.proofs.Store.{is_store_formed}
use Rattle.store.proofs.Laws.{Sound, empty_sound}
use Rattle.spec.specs.declared.Delivered.{Delivered}
use Rattle.spec.specs.Deliveries.{deliver}
use Rattle.report_text.specs.Text.{report_text, refusal_text, outcome_text, empty_store, response}
use Rattle.report_text.specs.inside.Appended.{Appended, Printable, head_room, response_room}
use Rattle.report_text.proofs.Appending.{text_appended}
use Rattle.report.proofs.Sound.{deliver_sound}

-- The result d of a delivery of the bytes bs to the empty store, and the words of the tables after it.
pub record FromEmpty (bs : List ℕ) (d : Delivered) (S F K U : List ℕ) : Type 0 where
  pub is_delivered : (d, tables S F K U) ≡ deliver empty_store bs
  pub support_places : length U ≡ 4096

-- It comes from four tables of zeros.
pub from_zeros : {s f k u : List ℕ} (bs : List ℕ) (d : Delivered) (S F K U : List ℕ)
    → s ≡ replicate 1537 0 → f ≡ replicate 3073 0 → k ≡ replicate 12289 0 → u ≡ replicate 4096 0
    → (d, tables S F K U) ≡ deliver (tables s f k u) bs → length U ≡ length u → FromEmpty bs d S F K U
from_zeros bs d S F K U es ef ek eu h e =
    record {
      is_delivered = h ∙ ap (λ (T : Tables). deliver T bs) (λ i. tables (es i) (ef i) (ek i) (eu i));
      support_places = e ∙ ap length eu ∙ length-replicate {A = ℕ} 4096 0;
    }

module _ {bs : List ℕ} {d : Delivered} {S F K U : List ℕ} (D : FromEmpty bs d S F K U) where
  -- The response is the text of the result and the kept facts.
  response_is : response bs ≡ outcome_text d (kept_of K U)
  unfolding response
  response_is = ap (λ (r : Delivered × Tables). outcome_text r.0 (kept_of r.1.kept r.1.supports)) (sym D.is_delivered)

  -- The tables are well formed,
  sound : Sound (tables S F K U)
  sound =
      let empty = empty_sound 1537 3073 12289 4096 (omega arith) (omega arith) (omega arith) in
      subst (λ (r : Delivered × Tables). Sound r.1) (sym D.is_delivered) (deliver_sound empty_store bs empty)

  formed : FormedStore S F K U
  formed = is_store_formed S F K U sound.formed

  -- so that there are no more rows than places for their supports,
  pub few-rows : count K ≤ 4096
  few-rows = omega (arith, formed.supports.within, D.support_places)

  -- and rows and supports can be read and fit.
  pub printable : (out : List ℕ) → response_room ≤ length out → Printable K U out head_room
  printable out r =
      record {
        words = omega (arith, formed.kept.laid.fits, formed.kept.laid.counted);
        places = formed.supports.within;
        room = omega (arith, few-rows);
      }

  -- What is written is the response: of a delivery that was refused,
  pub refused_response : {out out' : List ℕ} {end : ℕ} → ¬ (d.refusal ≡ 0) → Appended (refusal_text d.refusal) 0 out out' end → Appended (response bs) 0 out out' end
  unfolding outcome_text
  refused_response n A = text_appended (sym (response_is ∙ rw (ne_eqb d.refusal 0 n) refl)) A

  -- and of one that was not.
  pub report_response : {out out' : List ℕ} {end : ℕ} → d.refusal ≡ 0 → Appended (report_text d (kept_of K U)) 0 out out' end → Appended (response bs) 0 out out' end
  unfolding outcome_text
  report_response z A = text_appended (sym (response_is ∙ rw (eq-eqb d.refusal 0 z) refl)) A
