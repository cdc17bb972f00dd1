-- What is asked of a delivery and what it does (document 01, "Deliveries" and the questions 9, 10 and 11). Definitions only.
use Rattle.std.specs.Prelude.{ℕ, zero, suc, Bool, true, false, ◌&&◌, not, List, [], ◌∷◌, length, eqb}
use Rattle.spec.specs.declared.Triple.{Triple}
use Rattle.spec.specs.Terms.{is_statement}
use Rattle.spec.specs.Tables.{Tables, are_formed}
use Rattle.spec.specs.Lists.{all, select}
use Rattle.spec.specs.declared.Answer.{Answer}
use Rattle.spec.specs.declared.Answer.TheVariants.{Applied, Idle, Refused}
use Rattle.spec.specs.declared.Tally.{Tally}
use Rattle.spec.specs.declared.Change.{Change}
use Rattle.spec.specs.declared.Change.TheVariants.{Addition, Withdrawal}
use Rattle.spec.specs.Updates.{update}
use Rattle.spec.specs.Messages.{Field, Message}
use Rattle.spec.specs.computed.Decoded.{word, read, is_whole}
use Rattle.spec.specs.Refusals.{first_refusal}
use Rattle.spec.specs.declared.Delivered.{Delivered}

-- ---- the questions

-- Whether the property of an entry is one of a fact: not 2 to 5.
abbrev pub is_fact : Triple → Bool
is_fact t = not (is_statement t)

-- Question 10: "is each entry's property right for its section (2 to 5 for statements, others for facts)?"
unfoldable pub are_sections_right : Message → Bool
are_sections_right m =
    all is_statement m.statements_withdrawn
    && (all is_fact m.facts_withdrawn
    && (all is_statement m.statements_added
    && all is_fact m.facts_added))

-- "Tag 1 is the delivery number": of some fields those with tag 1; "all other tags are stepped over".
unfoldable pub number_fields : List Field → List Field
number_fields fs = select (λ f. eqb f.tag 1) fs

-- Question 11, of the fields with tag 1: "at most once, of length 4".
unfoldable pub is_number_right : List Field → Bool
is_number_right [] = true
is_number_right (f ∷ []) = eqb (length f.bytes) 4
is_number_right (f ∷ g ∷ fs) = false

-- "Delivery number (0 when absent)", four bytes.
unfoldable pub number_of : List Field → ℕ
number_of [] = 0
number_of (f ∷ fs) = word f.bytes 0

-- "Three tallies": how many entries were applied, idle and refused.
abbrev pub tally : ℕ → ℕ → ℕ → Tally
tally a i r = record { applied = a; idle = i; refused = r }

-- "Three tallies rise as entries are dealt with": the one of the answer, by 1.
unfoldable pub tallied : Answer → Tally → Tally
tallied Applied y = tally (suc y.applied) y.idle y.refused
tallied Idle y = tally y.applied (suc y.idle) y.refused
tallied (Refused n) y = tally y.applied y.idle (suc y.refused)

-- What updates do: an answer, and what holds the triples after it. The store's tables are one such holder, the ledger another.
abbrev pub Update : Type 0 → Type 0
Update A = Change → A → Triple → Answer × A

-- A delivery's entries run over what holds the triples, and the tallies.
module _ {A : Type 0} where
  -- "Entries run in order", each "asked 1 to 5 as a lone update would be".
  unfoldable pub run_entries : (A → Triple → Answer × A) → List Triple → A × Tally → A × Tally
  run_entries update [] g = g
  run_entries update (t ∷ ts) g = let r = update g.0 t in run_entries update ts (r.1, tallied r.0 g.1)

  -- The four sections: statements withdrawn, facts withdrawn, statements added, facts added.
  unfoldable pub run_message : Update A → Message → A × Tally → A × Tally
  run_message update m g =
      run_entries (update Addition) m.facts_added
      (run_entries (update Addition) m.statements_added
      (run_entries (update Withdrawal) m.facts_withdrawn
      (run_entries (update Withdrawal) m.statements_withdrawn g)))

-- "The result is delivery number and tallies": refusal is 0, or the number that refused the whole.
abbrev pub delivered : ℕ → ℕ → Tally → Delivered
delivered refusal number y = record { refusal = refusal; number = number; applied = y.applied; idle = y.idle; refused = y.refused }

-- The questions of a delivery's bytes: 9, "whole, ending at its last byte, not too long?", 10, 11.
abbrev pub message_checks : List ℕ → List (ℕ × Bool)
message_checks bs =
    (9, is_whole bs)
    ∷ (10, are_sections_right (read bs))
    ∷ (11, is_number_right (number_fields (read bs).fields))
    ∷ []

-- "The first "no" refuses it whole by that number, delivery number and tallies 0", and what holds the triples stays; else its
-- entries run.
unfoldable pub conclude : {A : Type 0} → Update A → ℕ → Message → A → Delivered × A
conclude update (suc n) m h = (delivered (suc n) 0 (tally 0 0 0), h)
conclude update zero m h =
    let g = run_message update m (h, tally 0 0 0) in
    (delivered 0 (number_of (number_fields m.fields)) g.1, g.0)

-- A delivery of bytes to a store: asked 1, 9, 10 and 11.
unfoldable pub deliver : Tables → List ℕ → Delivered × Tables
deliver T bs = conclude update (first_refusal ((1, are_formed T) ∷ message_checks bs)) (read bs) T
