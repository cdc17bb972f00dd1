-- Updates of a statement, by the answers to questions 4 and 5 as the code finds them. Assumes nothing.
use Prim.Native.Nat.{ℕ, ◌+◌, ◌*◌, ◌≤◌, ◌<◌, min}
use mathlib.Core.Path.{◌≡◌, refl, sym, ap, ◌∙◌}
use mathlib.Core.Bool.{Bool, true, false}
use mathlib.Core.List.{List, ◌∷◌, ◌++◌}
use native.Mathlib.Omega.{arith}
use lib.ListN.{length, take, drop, take-append-drop}
use lib.Seq.{length-take-le, take_at, drop_at, drop-append-add, split_at}
use native.Mathlib.Numerals.{add-one}
use lib.Dec.{leb}
use borrow.Author.Tests.{lt-ltb, le-ltb}
use Rattle.spec.specs.declared.Triple.{Triple}
use Rattle.spec.specs.Terms.{is_triple, is_statement, are_sides_allowed, is_allowed_statement}
use Rattle.spec.specs.Order.{is_ascending, insert, remove}
use Rattle.spec.proofs.Ascending.{and_left, and_right}
use Rattle.spec.specs.Saturation.{kept_rows, kept_supports}
use Rattle.std.specs.Prelude.{Ok, Err}
use Rattle.spec.specs.Tables.{capacity, most_statements, most_kept, count, rows, first_rows, layout, is_statement_table, tables, capacities_of, contents_of, put}
use Rattle.table_find.specs.inside.Search.{place}
use Rattle.table_change.specs.inside.Words.{insert_at, remove_at}
use Rattle.spec.specs.computed.Saturated.{saturation}
use Rattle.spec.specs.Lists.{padded}
use Rattle.spec.specs.inside.Laid.{Laid, Spare, WellFormed, FormedStore}
use Rattle.spec.proofs.TableRows.{length-rows, rows_of, length-layout}
use Rattle.table_find.proofs.Place.{at_member, gap_absent, missing_at, stands_at}
use Rattle.spec.proofs.TableFormed.{capacity_fits, capacity_most, ready, spare, well_formed-is_table}
use Rattle.table_change.proofs.Change.{insert_at_gap, remove_at-at, length-insert_at, length-remove_at, well_formed-insert, well_formed-remove}
use Rattle.table.proofs.Store.{formed_is_store}
use Rattle.spec.specs.declared.Answer.TheVariants.{Applied, Idle, Refused}
use Rattle.spec.specs.declared.Change.{Change}
use Rattle.spec.specs.declared.Change.TheVariants.{Addition, Withdrawal}
use Rattle.spec.specs.Updates.{is_member, changed, applying, is_change, is_admitted, contents_after, is_kept_fitting, update, add, withdraw}
use Rattle.saturate_write.specs.inside.Written.{Result, result_of, written}
use Rattle.saturate.specs.inside.Saturated.{saturated}
use Rattle.spec.specs.inside.Pairs.{outcome}
use Rattle.spec.proofs.Outcomes.{Passes, update_idle, update_full, update-unfit, update-applied, member_yes, member_no}

-- What `saturate` asks of the room, and the capacity of the kept facts gives.
pub kept_room : {S F K U : List ℕ} → FormedStore S F K U → (room : ℕ) → room ≡ min (capacity most_kept K) (length U) → (room * 3 < length K) × (room ≤ length U) × (room ≤ 262143)
kept_room {S} {F} {K} {U} W room e = (
  capacity_fits most_kept K room (omega (arith, W.kept.laid.fits)) (omega arith),
  omega arith,
  omega (arith, capacity_most most_kept K),
)

-- What working out afresh says of the tables, by its answer.
module _ (S F : List ℕ) (room : ℕ) (K U : List ℕ) {r : Bool} {K' U' : List ℕ} (Z : result_of r K' U' ≡ saturated S F room K U) where
  afresh_fits : r ≡ leb (length (saturation (rows S) (rows F))) room
  unfolding saturated written
  afresh_fits = ap (λ (z : Result). z.fits) Z

  afresh_kept : r ≡ true → K' ≡ layout (length K) (kept_rows (saturation (rows S) (rows F)))
  unfolding saturated written
  afresh_kept y = ap (λ (z : Result). z.kept) Z ∙ rw (sym afresh_fits ∙ y) refl

  afresh_supports : r ≡ true → U' ≡ padded (length U) (kept_supports (saturation (rows S) (rows F)))
  unfolding saturated written
  afresh_supports y = ap (λ (z : Result). z.supports) Z ∙ rw (sym afresh_fits ∙ y) refl

  afresh_same_kept : r ≡ false → K' ≡ K
  unfolding saturated written
  afresh_same_kept y = ap (λ (z : Result). z.kept) Z ∙ rw (sym afresh_fits ∙ y) refl

  afresh_same_supports : r ≡ false → U' ≡ U
  unfolding saturated written
  afresh_same_supports y = ap (λ (z : Result). z.supports) Z ∙ rw (sym afresh_fits ∙ y) refl

-- A row put in and taken out again at one place, and the other way round.
pub inserted_removed : (i : ℕ) (t : Triple) (us : List Triple) → i ≤ length us → remove_at i (insert_at i t us) ≡ us
unfolding insert_at remove_at
inserted_removed i t us h =
    let l : length (take i us) ≡ i = length-take-le i us h in
    let e : drop (i + 1) (take i us ++ (t ∷ drop i us)) ≡ drop i us = ap (λ (k : ℕ). drop (k + 1) (take i us ++ (t ∷ drop i us))) (sym l) ∙ drop-append-add (take i us) (t ∷ drop i us) 1 in
    rw (take_at (take i us) (t ∷ drop i us) i l, e) (take-append-drop i us)

pub removed_inserted : (i : ℕ) (t : Triple) (us : List Triple) → place t us ≡ Ok i → insert_at i t (remove_at i us) ≡ us
unfolding insert_at remove_at
removed_inserted i t us h =
    let l : length (take i us) ≡ i = length-take-le i us (omega (arith, (stands_at t us i h).within)) in
    rw (take_at (take i us) (drop (i + 1) us) i l, drop_at (take i us) (drop (i + 1) us) i l)
    (ap (λ (x : Triple). take i us ++ (x ∷ drop (i + 1) us)) (sym ((stands_at t us i h).is t)) ∙ rw (add-one i) (sym (split_at us i t (stands_at t us i h).within)))

module _ {S F K U : List ℕ} (W : FormedStore S F K U) (t : Triple) (a : is_allowed_statement t ≡ true) where
  is_statement_lem : is_statement t ≡ true
  unfolding is_allowed_statement
  is_statement_lem = and_left (is_statement t) (are_sides_allowed t) (and_right (is_triple t) _ a)

  passes : Passes (tables S F K U) t
  unfolding is_allowed_statement
  passes = record { formed = formed_is_store W; is_triple = and_left _ _ a; sides = rw is_statement_lem (and_right (is_statement t) (are_sides_allowed t) (and_right (is_triple t) _ a)) }

  present : {i : ℕ} → place t (rows S) ≡ Ok i → is_member t (contents_of (tables S F K U)).explicit ≡ true
  unfolding contents_of
  present {i} e = member_yes t (contents_of (tables S F K U)).explicit (rw is_statement_lem (at_member t (rows S) i e))

  missing : {i : ℕ} → place t (rows S) ≡ Err i → is_member t (contents_of (tables S F K U)).explicit ≡ false
  unfolding contents_of
  missing {i} e = member_no t (contents_of (tables S F K U)).explicit (rw is_statement_lem (gap_absent t (rows S) i W.statements.ascends e))

  -- A statement that is not there changes the statements by entering, and one that is there by leaving.
  enters : {i : ℕ} → place t (rows S) ≡ Err i → is_change Addition t (contents_of (tables S F K U)).explicit ≡ true
  unfolding is_change
  enters e = rw (missing e) refl

  leaves : {i : ℕ} → place t (rows S) ≡ Ok i → is_change Withdrawal t (contents_of (tables S F K U)).explicit ≡ true
  unfolding is_change
  leaves e = present e

  -- What `find` asks of the statements.
  pub statements_ready : is_ascending (first_rows (count S) (drop 1 S)) ≡ true
  statements_ready = ready W.statements (count S) (length-rows S)

  -- A statement that is there is not added again, and one that is absent is not withdrawn.
  pub statement_there : {i : ℕ} {d : Change} → d ≡ Addition → place t (rows S) ≡ Ok i → outcome Idle (tables S F K U) ≡ update d (tables S F K U) t
  unfolding is_change
  statement_there q e = rw q (sym (update_idle Addition passes (rw (present e) refl)))

  pub statement_absent : {i : ℕ} {d : Change} → d ≡ Withdrawal → place t (rows S) ≡ Err i → outcome Idle (tables S F K U) ≡ update d (tables S F K U) t
  unfolding is_change
  statement_absent q e = rw q (sym (update_idle Withdrawal passes (missing e)))

  -- The statements are full.
  pub statements_full : {i : ℕ} → place t (rows S) ≡ Err i → capacity most_statements S ≤ length (rows S) → outcome (Refused 4) (tables S F K U) ≡ add (tables S F K U) t
  unfolding is_admitted contents_of
  statements_full e h = sym (update_full Addition passes (rw (missing e, is_statement_lem) (le-ltb (length (rows S)) (capacity most_statements S) h)))

  -- They are not full.
  below : {i : ℕ} → place t (rows S) ≡ Err i → length (rows S) < capacity most_statements S → is_admitted (capacities_of (tables S F K U)) Addition t (contents_of (tables S F K U)).explicit ≡ true
  unfolding is_admitted contents_of
  below e h = rw (missing e, is_statement_lem) (lt-ltb (length (rows S)) (capacity most_statements S) h)

  -- A withdrawal is not asked.
  unasked : is_admitted (capacities_of (tables S F K U)) Withdrawal t (contents_of (tables S F K U)).explicit ≡ true
  unfolding is_admitted
  unasked = refl

  -- What `insert_at` asks of the statements.
  pub statement_spare : length (rows S) < capacity most_statements S → Spare S
  statement_spare h = spare W.statements (omega arith) h

  -- ---- a statement that enters

  module _ {i : ℕ} (p : place t (rows S) ≡ Err i) (h : length (rows S) < capacity most_statements S) {S' : List ℕ} (e : S' ≡ layout (length S) (insert_at i t (rows S))) where
    with-formed : WellFormed is_allowed_statement most_statements S'
    with-formed = well_formed-insert S' i t W.statements a h p e

    -- What `saturate` asks of the statements with it.
    pub with-table : is_statement_table S' ≡ true
    with-table = well_formed-is_table with-formed

    with_rows : rows S' ≡ insert t (rows S)
    with_rows = rows_of S' (length S) (insert_at i t (rows S)) e ∙ insert_at_gap t (rows S) i p

    inside : i ≤ length (rows S)
    inside = (missing_at t (rows S) i p).within

    length-with : length S' ≡ length S
    length-with =
        ap length e
        ∙ length-layout (length S) (insert_at i t (rows S)) (omega (arith, length-insert_at i t (rows S) inside, capacity_fits most_statements S (length (rows S) + 1) (omega (arith, W.statements.laid.fits)) (omega arith)))

    -- What `remove_at` asks, to take it out again.
    pub with-laid : Laid S' × (i < length (rows S'))
    with-laid = (with-formed.laid, omega (arith, inside, ap length (rows_of S' (length S) (insert_at i t (rows S)) e), length-insert_at i t (rows S) inside))

    module _ (room : ℕ) (q : room ≡ min (capacity most_kept K) (length U)) {r : Bool} {K' U' : List ℕ} (Z : result_of r K' U' ≡ saturated S' F room K U) where
      -- It enters, and the kept facts are those worked out afresh.
      pub statement-added : r ≡ true → outcome Applied (tables S' F K' U') ≡ add (tables S F K U) t
      unfolding is_kept_fitting contents_after applying changed contents_of put
      statement-added y =
          sym (update-applied Addition passes (enters p) (below p h) (rw (is_statement_lem, ← with_rows, ← q) (sym (afresh_fits S' F room K U Z) ∙ y))
          ∙ rw (is_statement_lem, ← with_rows, ← length-with, ← with-formed.laid.is_layout, ← W.facts.laid.is_layout, ← afresh_kept S' F room K U Z y, ← afresh_supports S' F room K U Z y) refl)

      -- The kept facts do not fit, and it was taken out again.
      pub statement-unfit : {S'' : List ℕ} → r ≡ false → S'' ≡ layout (length S') (remove_at i (rows S')) → outcome (Refused 5) (tables S'' F K' U') ≡ add (tables S F K U) t
      unfolding is_kept_fitting contents_after applying changed contents_of
      statement-unfit {S''} y f =
          rw (same_statements, afresh_same_kept S' F room K U Z y, afresh_same_supports S' F room K U Z y)
          (sym (update-unfit Addition passes (enters p) (below p h) (rw (is_statement_lem, ← with_rows, ← q) (sym (afresh_fits S' F room K U Z) ∙ y))))
        where
          same_statements : S'' ≡ S
          same_statements = f ∙ rw (length-with, rows_of S' (length S) (insert_at i t (rows S)) e, inserted_removed i t (rows S) inside) (sym W.statements.laid.is_layout)

  -- ---- a statement that goes

  -- What `remove_at` asks of the statements.
  pub statement_laid : {i : ℕ} → place t (rows S) ≡ Ok i → Laid S × (i < length (rows S))
  statement_laid {i} p = (W.statements.laid, (stands_at t (rows S) i p).within)

  module _ {i : ℕ} (p : place t (rows S) ≡ Ok i) {S' : List ℕ} (e : S' ≡ layout (length S) (remove_at i (rows S))) where
    without-formed : WellFormed is_allowed_statement most_statements S'
    without-formed = well_formed-remove S' i t W.statements p e

    -- What `saturate` asks of the statements without it.
    pub without-table : is_statement_table S' ≡ true
    without-table = well_formed-is_table without-formed

    without-rows : rows S' ≡ remove t (rows S)
    without-rows = rows_of S' (length S) (remove_at i (rows S)) e ∙ remove_at-at t (rows S) i p

    shorter : length (remove_at i (rows S)) + 1 ≡ length (rows S)
    shorter = length-remove_at i (rows S) (stands_at t (rows S) i p).within

    length_without : length S' ≡ length S
    length_without = ap length e ∙ length-layout (length S) (remove_at i (rows S)) (omega (arith, shorter, W.statements.laid.fits))

    -- What `insert_at` asks, to put it in again.
    pub without-spare : Spare S' × (i ≤ length (rows S'))
    without-spare =
        let l : length (rows S') + 1 ≡ length (rows S) = omega (arith, shorter, ap length (rows_of S' (length S) (remove_at i (rows S)) e)) in (
          record { laid = without-formed.laid; room = omega (arith, length_without, W.statements.laid.fits); countable = omega (arith, W.statements.within, capacity_most most_statements S) },
          omega (arith, (stands_at t (rows S) i p).within),
        )

    module _ (room : ℕ) (q : room ≡ min (capacity most_kept K) (length U)) {r : Bool} {K' U' : List ℕ} (Z : result_of r K' U' ≡ saturated S' F room K U) where
      -- It goes, and the kept facts are those worked out afresh.
      pub statement-withdrawn : r ≡ true → outcome Applied (tables S' F K' U') ≡ withdraw (tables S F K U) t
      unfolding is_kept_fitting contents_after applying changed contents_of put
      statement-withdrawn y =
          sym (update-applied Withdrawal passes (leaves p) unasked (rw (is_statement_lem, ← without-rows, ← q) (sym (afresh_fits S' F room K U Z) ∙ y))
          ∙ rw (is_statement_lem, ← without-rows, ← length_without, ← without-formed.laid.is_layout, ← W.facts.laid.is_layout, ← afresh_kept S' F room K U Z y, ← afresh_supports S' F room K U Z y) refl)

      -- The kept facts do not fit, and it was put in again.
      pub withdrawal-unfit : {S'' : List ℕ} → r ≡ false → S'' ≡ layout (length S') (insert_at i t (rows S')) → outcome (Refused 5) (tables S'' F K' U') ≡ withdraw (tables S F K U) t
      unfolding is_kept_fitting contents_after applying changed contents_of
      withdrawal-unfit {S''} y f =
          rw (same_statements, afresh_same_kept S' F room K U Z y, afresh_same_supports S' F room K U Z y)
          (sym (update-unfit Withdrawal passes (leaves p) unasked (rw (is_statement_lem, ← without-rows, ← q) (sym (afresh_fits S' F room K U Z) ∙ y))))
        where
          same_statements : S'' ≡ S
          same_statements = f ∙ rw (length_without, rows_of S' (length S) (remove_at i (rows S)) e, removed_inserted i t (rows S) p) (sym W.statements.laid.is_layout)
