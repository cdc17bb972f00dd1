-- What an old store is, and the two outcomes of carrying it over. Assumes nothing.
use Prim.Native.Nat.{ℕ, zero, suc, ◌+◌, ◌*◌, ◌≤◌, ◌<◌}
use mathlib.Core.Path.{◌≡◌, refl, sym, ap, ap₂, ◌∙◌, subst}
use mathlib.Core.Bool.{Bool, true, false, ◌&&◌}
use mathlib.Core.Logic.{◌↔◌, ◌⊎◌, inl, inr, ⊎_elim}
use native.Mathlib.Omega.{arith}
use lib.ListN.{length}
use lib.Dec.{leb}
use borrow.Author.Tests.{leb-true, leb-false, le-leb, lt-leb, ne_eqb}
use Rattle.spec.specs.Terms.{is_allowed_statement, is_allowed_fact}
use Rattle.spec.specs.Refusals.{first_refusal}
use Rattle.spec.specs.Tables.{count, is_table, Tables}
use Rattle.spec.proofs.Ascending.{and_left, and_right}
use Rattle.spec.proofs.Lists.{by_test}
use Rattle.spec.proofs.TableAll.{and_false}
use Rattle.spec.proofs.TableRows.{length-rows}
use Rattle.spec.proofs.TableFormed.{is_table_well_formed, well_formed-is_table, capacity_most}
use Rattle.table.proofs.Supports.{supports_of_lem, supports_is}
use Rattle.old_store.specs.declared.Lengths.{Lengths}
use Rattle.old_store.specs.CarryingOver.{is_old_store, has_room, carrying_checks, carried_tables, zero_tables, carried, carry_over}
use Rattle.old_store.specs.CarryingPromises.{OldStore, CarryingRefusedBy, CarryingAccepted}

-- ---- question 1

old_formed : (T : Tables) → is_old_store T ≡ true → OldStore T
unfolding is_old_store
old_formed T e =
    let f = and_right (is_table is_allowed_statement 512 T.statements) _ e in
    let k = and_right (is_table is_allowed_fact 65535 T.facts) _ f in
    record {
      statements = is_table_well_formed is_allowed_statement 512 T.statements (and_left _ _ e);
      facts = is_table_well_formed is_allowed_fact 65535 T.facts (and_left _ _ f);
      kept = is_table_well_formed is_allowed_fact 262143 T.kept (and_left _ _ k);
      supports = supports_of_lem (count T.facts) (count T.kept) T.supports (and_right (is_table is_allowed_fact 262143 T.kept) _ k);
    }

formed_old : (T : Tables) → OldStore T → is_old_store T ≡ true
unfolding is_old_store
formed_old T S = rw (well_formed-is_table S.statements, well_formed-is_table S.facts, well_formed-is_table S.kept) (supports_is S.supports)

-- The test of an old store is exact.
pub old_store : (T : Tables) → (is_old_store T ≡ true) ↔ OldStore T
old_store T = (old_formed T, formed_old T)

-- Its counts are within document 01's limits.
pub old_counts : (T : Tables) → is_old_store T ≡ true → (count T.statements ≤ 512) × (count T.facts ≤ 65535) × (count T.kept ≤ 262143)
old_counts T e =
    let S = old_formed T e in (
      omega (arith, S.statements.within, length-rows T.statements, capacity_most 512 T.statements),
      omega (arith, S.facts.within, length-rows T.facts, capacity_most 65535 T.facts),
      omega (arith, S.kept.within, length-rows T.kept, capacity_most 262143 T.kept),
    )

-- Its tables have words for their counts.
pub some_words : (T : Tables) → is_old_store T ≡ true → (0 < length T.statements) × (0 < length T.facts) × (0 < length T.kept)
some_words T e =
    let S = old_formed T e in
    (omega (arith, S.statements.laid.fits), omega (arith, S.facts.laid.fits), omega (arith, S.kept.laid.fits))

-- ---- the questions

-- Two answers as the code gives them.
pub both : {a b c d x : Bool} → a ≡ c → b ≡ d → (a && b) ≡ x → (c && d) ≡ x
both p q e = sym (ap₂ ◌&&◌ p q) ∙ e

-- A conjunction that is false is false on a side.
and_cases : (a b : Bool) → (a && b) ≡ false → (a ≡ false) ⊎ (b ≡ false)
and_cases true b e = inr e
and_cases false b e = inl e

-- Question 1 as the code asks it.
pub store_no : (T : Tables) {b : Bool} → b ≡ is_old_store T → b ≡ false → is_old_store T ≡ false
store_no T {b} e n = sym e ∙ n

pub store_yes : (T : Tables) {b : Bool} → b ≡ is_old_store T → b ≡ true → is_old_store T ≡ true
store_yes T {b} e n = sym e ∙ n

module _ (T : Tables) (L : Lengths) where
  abbrev pub is_room : Bool
  is_room = has_room (count T.statements) L.statements && has_room (count T.facts) L.facts

  abbrev pub is_kept_room : Bool
  is_kept_room = has_room (count T.kept) L.kept && leb (count T.kept) L.supports

  abbrev pub number : ℕ
  number = first_refusal (carrying_checks T L)

  pub by_1 : is_old_store T ≡ false → number ≡ 1
  unfolding first_refusal
  by_1 h = rw h

  pub by_4 : is_old_store T ≡ true → is_room ≡ false → number ≡ 4
  unfolding first_refusal
  by_4 h r = rw (h, r)

  pub by_5 : is_old_store T ≡ true → is_room ≡ true → is_kept_room ≡ false → number ≡ 5
  unfolding first_refusal
  by_5 h r k = rw (h, r, k)

  pub by_none : is_old_store T ≡ true → is_room ≡ true → is_kept_room ≡ true → number ≡ 0
  unfolding first_refusal
  by_none h r k = rw (h, r, k)

  -- What has room, and what has none.
  in_room : is_room ≡ true → (count T.statements * 3 + 1 ≤ L.statements) × (count T.facts * 3 + 1 ≤ L.facts)
  in_room r = (leb-true _ _ (and_left _ _ r), leb-true _ _ (and_right (has_room (count T.statements) L.statements) _ r))

  room_in : count T.statements * 3 + 1 ≤ L.statements → count T.facts * 3 + 1 ≤ L.facts → is_room ≡ true
  room_in s f = rw (le-leb (count T.statements * 3 + 1) L.statements s, le-leb (count T.facts * 3 + 1) L.facts f)

  out_room : is_room ≡ false → (L.statements < count T.statements * 3 + 1) ⊎ (L.facts < count T.facts * 3 + 1)
  out_room r = ⊎_elim (λ a. inl (leb-false _ _ a)) (λ b. inr (leb-false _ _ b)) (and_cases _ _ r)

  room_out : (L.statements < count T.statements * 3 + 1) ⊎ (L.facts < count T.facts * 3 + 1) → is_room ≡ false
  room_out =
      ⊎_elim
      (λ s. rw (lt-leb (count T.statements * 3 + 1) L.statements s))
      (λ f. rw (lt-leb (count T.facts * 3 + 1) L.facts f) (and_false (has_room (count T.statements) L.statements)))

  in_kept : is_kept_room ≡ true → (count T.kept * 3 + 1 ≤ L.kept) × (count T.kept ≤ L.supports)
  in_kept r = (leb-true _ _ (and_left _ _ r), leb-true _ _ (and_right (has_room (count T.kept) L.kept) _ r))

  kept_in : count T.kept * 3 + 1 ≤ L.kept → count T.kept ≤ L.supports → is_kept_room ≡ true
  kept_in k u = rw (le-leb (count T.kept * 3 + 1) L.kept k, le-leb (count T.kept) L.supports u)

  out_kept : is_kept_room ≡ false → (L.kept < count T.kept * 3 + 1) ⊎ (L.supports < count T.kept)
  out_kept r = ⊎_elim (λ a. inl (leb-false _ _ a)) (λ b. inr (leb-false _ _ b)) (and_cases _ _ r)

  kept_out : (L.kept < count T.kept * 3 + 1) ⊎ (L.supports < count T.kept) → is_kept_room ≡ false
  kept_out =
      ⊎_elim
      (λ k. rw (lt-leb (count T.kept * 3 + 1) L.kept k))
      (λ u. rw (lt-leb (count T.kept) L.supports u) (and_false (has_room (count T.kept) L.kept)))

  -- ---- by which number

  refused-number : (n : ℕ) → CarryingRefusedBy T L n → number ≡ n
  refused-number n (CarryingRefusedBy.no_store e h) = rw e (by_1 h)
  refused-number n (CarryingRefusedBy.no_room e h r) = rw e (by_4 h (room_out r))
  refused-number n (CarryingRefusedBy.no-kept-room e h s f r) = rw e (by_5 h (room_in s f) (kept_out r))

  refused_positive : (n : ℕ) → CarryingRefusedBy T L n → 0 < n
  refused_positive n (CarryingRefusedBy.no_store e h) = omega (arith, e)
  refused_positive n (CarryingRefusedBy.no_room e h r) = omega (arith, e)
  refused_positive n (CarryingRefusedBy.no-kept-room e h s f r) = omega (arith, e)

  accepted-number : CarryingAccepted T L → number ≡ 0
  accepted-number A = by_none A.store (room_in A.statements A.facts) (kept_in A.kept A.supports)

  -- It is refused by that number, or accepted.
  pub outcome : CarryingRefusedBy T L number ⊎ CarryingAccepted T L
  outcome =
      by_test (is_old_store T)
      (λ h.
      by_test is_room
      (λ r.
      by_test is_kept_room
      (λ k. inr (record { store = h; statements = (in_room r).0; facts = (in_room r).1; kept = (in_kept k).0; supports = (in_kept k).1 }))
      (λ k. inl (CarryingRefusedBy.no-kept-room (by_5 h r k) h (in_room r).0 (in_room r).1 (out_kept k))))
      (λ r. inl (CarryingRefusedBy.no_room (by_4 h r) h (out_room r))))
      (λ h. inl (CarryingRefusedBy.no_store (by_1 h) h))

  number_accepted : number ≡ 0 → CarryingAccepted T L
  number_accepted e = ⊎_elim (λ (R : CarryingRefusedBy T L number). absurd (omega (arith, e, refused_positive number R))) (λ A. A) outcome

  -- ---- what is left

  carry-number : (carry_over T L).0 ≡ number
  unfolding carry_over
  carry-number = refl

  carry_accepted : number ≡ 0 → carry_over T L ≡ carried 0 (carried_tables T L)
  unfolding carry_over
  carry_accepted e = rw e

  carry_refused : (n : ℕ) → number ≡ suc n → carry_over T L ≡ carried (suc n) (zero_tables L)
  unfolding carry_over
  carry_refused n e = rw (e, ne_eqb (suc n) 0 (λ q. omega (arith, q)))

  -- A number that refuses.
  refused_by : (n : ℕ) → number ≡ n → (n ≡ 0 → ⊥) → carry_over T L ≡ carried n (zero_tables L)
  refused_by zero e h = absurd (h refl)
  refused_by (suc n) e h = carry_refused n e

  -- The same, as the code leaves it.
  pub asked : {n : ℕ} → n ≡ number → n ≡ 0 → CarryingAccepted T L
  asked e z = number_accepted (sym e ∙ z)

  pub gives-rows : {n : ℕ} {N : Tables} → n ≡ number → n ≡ 0 → N ≡ carried_tables T L → carried 0 N ≡ carry_over T L
  gives-rows e z q = ap (carried 0) q ∙ sym (carry_accepted (sym e ∙ z))

  pub gives_zeros : {n : ℕ} {N : Tables} → n ≡ number → (n ≡ 0 → ⊥) → N ≡ zero_tables L → carried n N ≡ carry_over T L
  gives_zeros {n} e h q = ap (carried n) q ∙ sym (refused_by n (sym e) h)

  -- ---- the theorems

  -- Carrying over is refused by n exactly where n is the number of the first "no" of 1, 4 and 5.
  pub carrying_refused : (n : ℕ) → ((0 < n) × ((carry_over T L).0 ≡ n)) ↔ CarryingRefusedBy T L n
  carrying_refused n = (
    λ e. ⊎_elim
        (λ (R : CarryingRefusedBy T L number). subst (CarryingRefusedBy T L) (sym carry-number ∙ e.1) R)
        (λ (A : CarryingAccepted T L). absurd (omega (arith, e.0, e.1, carry-number, accepted-number A)))
        outcome,
    λ (R : CarryingRefusedBy T L n). (refused_positive n R, carry-number ∙ refused-number n R),
  )

  -- It then leaves zeros.
  pub carrying_refused-leaves : (n : ℕ) → CarryingRefusedBy T L n → carry_over T L ≡ carried n (zero_tables L)
  carrying_refused-leaves n R = refused_by n (refused-number n R) (λ e. omega (arith, e, refused_positive n R))

  -- Otherwise it is accepted,
  pub carrying_accepted : ((carry_over T L).0 ≡ 0) ↔ CarryingAccepted T L
  carrying_accepted = (λ e. number_accepted (sym carry-number ∙ e), λ A. carry-number ∙ accepted-number A)

  -- and leaves the old rows and supports.
  pub carrying_accepted-leaves : CarryingAccepted T L → carry_over T L ≡ carried 0 (carried_tables T L)
  carrying_accepted-leaves A = carry_accepted (accepted-number A)
