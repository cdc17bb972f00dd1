-- What an addition or a withdrawal of a fact comes to, as the code decides it. Assumes nothing.
use Prim.Native.Nat.{ℕ, ◌+◌, ◌*◌, ◌≤◌, ◌<◌, min}
use mathlib.Core.Path.{◌≡◌, refl, sym, ◌∙◌}
use mathlib.Core.Bool.{true, false}
use mathlib.Core.List.{List}
use native.Mathlib.Omega.{arith}
use lib.ListN.{length, get_or, take, drop}
use borrow.Author.Tests.{not-true, lt-ltb, le-ltb, le-leb, lt-leb}
use Rattle.spec.specs.declared.Triple.{Triple}
use Rattle.spec.specs.Terms.{is_triple, is_statement, is_allowed_fact}
use Rattle.spec.specs.Order.{is_ascending}
use Rattle.spec.specs.inside.Comparison.{Ascending}
use Rattle.spec.proofs.Ascending.{and_left, and_right}
use Rattle.std.specs.Prelude.{Ok, Err}
use Rattle.spec.specs.Tables.{capacity, most_statements, most_facts, most_kept, count, first_rows, rows, flatten, layout, tables, capacities_of, contents_of, kept_of, put}
use Rattle.table_find.specs.inside.Search.{place}
use Rattle.table_change.specs.inside.Words.{insert_at, remove_at}
use Rattle.spec.specs.inside.Laid.{Spare, FormedStore}
use Rattle.spec.proofs.TableRows.{length-rows, length-first_rows}
use Rattle.spec.proofs.TableFormed.{capacity_fits, capacity_most, ready, spare}
use Rattle.table.proofs.Supports.{support-between}
use Rattle.table_find.proofs.Place.{at_member, gap_absent}
use Rattle.table_change.proofs.Change.{insert_at_gap, remove_at-at}
use Rattle.table.proofs.Store.{formed_is_store}
use Rattle.spec.specs.Saturation.{Kept, raise_all, lower_all, kept_rows}
use Rattle.spec.specs.computed.Carried.{carried}
use Rattle.spec.proofs.Carried.{carried_ascends, carried-bound}
use Rattle.spec.proofs.Saturation.{raise_all-length, lower_all-length}
use Rattle.rdfs_carry.proofs.WordRows.{rows-listed, rows-within}
use Rattle.spec.specs.declared.Answer.TheVariants.{Applied, Idle, Refused}
use Rattle.spec.specs.declared.Change.{Change}
use Rattle.spec.specs.declared.Change.TheVariants.{Addition, Withdrawal}
use Rattle.spec.specs.Updates.{is_member, changed, applying, is_change, is_admitted, kept_after, contents_after, is_kept_fitting, update, add, withdraw}
use Rattle.spec.specs.inside.Pairs.{outcome}
use Rattle.spec.proofs.Outcomes.{Passes, update_idle, update_full, update-unfit, update-applied, member_yes, member_no}
use Rattle.update_kept.specs.inside.Entries.{Sought, Holding}
use Rattle.update_kept.proofs.Formed.{kept_tables, kept_rows_kept_of, length_kept_of, kept_within}
use Rattle.update_raise.specs.inside.Raising.{Raisable}
use Rattle.update_lower.specs.inside.Lowering.{Lowerable}

-- ---- facts of a well-formed store

module _ {S F K U : List ℕ} (W : FormedStore S F K U) where
  -- What `find` asks of the facts.
  pub facts_ready : is_ascending (first_rows (count F) (drop 1 F)) ≡ true
  facts_ready = ready W.facts (count F) (length-rows F)

  -- Every support has a number above it while the facts are below capacity.
  supports_below : length (rows F) < capacity most_facts F → (p : ℕ) → p < length (rows K) → get_or U p 0 < 65535
  supports_below h p q = omega (arith, support-between W.supports p (omega (arith, length-rows K)), capacity_most most_facts F, length-rows F)

-- ---- a fact

module _ {S F K U : List ℕ} (W : FormedStore S F K U) (t : Triple) (a : is_allowed_fact t ≡ true) where
  -- It is no statement, and passes questions 1 to 3.
  no_statement : is_statement t ≡ false
  unfolding is_allowed_fact
  no_statement = not-true (is_statement t) (and_right (is_triple t) _ a)

  passes : Passes (tables S F K U) t
  unfolding is_allowed_fact
  passes = record { formed = formed_is_store W; is_triple = and_left _ _ a; sides = rw no_statement refl }

  -- Whether it is there, by what a search found.
  present : {i : ℕ} → place t (rows F) ≡ Ok i → is_member t (contents_of (tables S F K U)).explicit ≡ true
  unfolding contents_of
  present {i} e = member_yes t (contents_of (tables S F K U)).explicit (rw no_statement (at_member t (rows F) i e))

  missing : {i : ℕ} → place t (rows F) ≡ Err i → is_member t (contents_of (tables S F K U)).explicit ≡ false
  unfolding contents_of
  missing {i} e = member_no t (contents_of (tables S F K U)).explicit (rw no_statement (gap_absent t (rows F) i W.facts.ascends e))

  -- A fact that is there is not added again, and one that is absent is not withdrawn.
  pub fact_there : {i : ℕ} {d : Change} → d ≡ Addition → place t (rows F) ≡ Ok i → outcome Idle (tables S F K U) ≡ update d (tables S F K U) t
  unfolding is_change
  fact_there q e = rw q (sym (update_idle Addition passes (rw (present e) refl)))

  pub fact_absent : {i : ℕ} {d : Change} → d ≡ Withdrawal → place t (rows F) ≡ Err i → outcome Idle (tables S F K U) ≡ update d (tables S F K U) t
  unfolding is_change
  fact_absent q e = rw q (sym (update_idle Withdrawal passes (missing e)))

  -- A fact that is not there changes the facts by entering, and one that is there by leaving.
  enters : {i : ℕ} → place t (rows F) ≡ Err i → is_change Addition t (contents_of (tables S F K U)).explicit ≡ true
  unfolding is_change
  enters e = rw (missing e) refl

  leaves : {i : ℕ} → place t (rows F) ≡ Ok i → is_change Withdrawal t (contents_of (tables S F K U)).explicit ≡ true
  unfolding is_change
  leaves e = present e

  -- The facts are full.
  pub facts_full : {i : ℕ} → place t (rows F) ≡ Err i → capacity most_facts F ≤ length (rows F) → outcome (Refused 4) (tables S F K U) ≡ add (tables S F K U) t
  unfolding is_admitted contents_of
  facts_full e h = sym (update_full Addition passes (rw (missing e, no_statement) (le-ltb (length (rows F)) (capacity most_facts F) h)))

  -- They are not full.
  below : {i : ℕ} → place t (rows F) ≡ Err i → length (rows F) < capacity most_facts F → is_admitted (capacities_of (tables S F K U)) Addition t (contents_of (tables S F K U)).explicit ≡ true
  unfolding is_admitted contents_of
  below e h = rw (missing e, no_statement) (lt-ltb (length (rows F)) (capacity most_facts F) h)

  -- A withdrawal is not asked.
  unasked : is_admitted (capacities_of (tables S F K U)) Withdrawal t (contents_of (tables S F K U)).explicit ≡ true
  unfolding is_admitted
  unasked = refl

  -- ---- what it carries, in words

  module _ (rs : List ℕ) (c : ℕ) (e : c ≡ length (carried (rows S) t)) (q : take (c * 3) rs ≡ flatten (carried (rows S) t)) where
    -- The words list what it carries, which ascends.
    listed : first_rows c rs ≡ carried (rows S) t
    listed = rows-listed rs c (carried (rows S) t) e q

    list-ascends : Ascending (first_rows c rs)
    list-ascends = rw listed (carried_ascends (rows S) t)

    -- What `count_missing` asks, and `lower_all`.
    pub carried-sought : Sought K rs c
    carried-sought = record { laid = W.kept.laid; ascends = W.kept.ascends; listed = rows-within rs c (carried (rows S) t) e q; sought_ascend = list-ascends }

    pub carried-lowerable : Lowerable K U rs c
    carried-lowerable = record { tables = kept_tables W; listed = rows-within rs c (carried (rows S) t) e q; lowered_ascend = list-ascends }

    module _ (m : ℕ) (counted : (k : Kept) → kept_rows k ≡ rows K → m + length k ≡ length (raise_all (first_rows c rs) k)) where
      -- So many rows are kept once they are raised.
      raised-length : m + length (rows K) ≡ length (raise_all (first_rows c rs) (kept_of K U))
      raised-length = let g = counted (kept_of K U) (kept_rows_kept_of W) in omega (arith, length_kept_of W)

      -- There are no more of them than a fact can carry.
      pub few-missing : m ≤ 1025
      few-missing =
          let r = raised-length in
          omega (arith, raise_all-length (first_rows c rs) (kept_of K U), length_kept_of W, length-first_rows c rs, carried-bound (rows S) t, W.statements.within, capacity_most most_statements S)

      -- The kept facts do not fit.
      pub kept-unfit : {i : ℕ} → place t (rows F) ≡ Err i → length (rows F) < capacity most_facts F → min (capacity most_kept K) (length U) < length (rows K) + m → outcome (Refused 5) (tables S F K U) ≡ add (tables S F K U) t
      unfolding is_kept_fitting contents_after kept_after contents_of
      kept-unfit p h l =
          sym (update-unfit Addition passes (enters p) (below p h)
          (rw (no_statement, ← listed) (lt-leb (length (raise_all (first_rows c rs) (kept_of K U))) (min (capacity most_kept K) (length U)) (omega (arith, raised-length)))))

      -- What `raise_all` asks.
      pub carried-raisable : length (rows F) < capacity most_facts F → length (rows K) + m ≤ min (capacity most_kept K) (length U) → Raisable K U rs c m
      carried-raisable h l = record {
        tables = kept_tables W;
        below_most = supports_below W h;
        listed = rows-within rs c (carried (rows S) t) e q;
        raised_ascend = list-ascends;
        counted = raised-length;
        words = capacity_fits most_kept K (length (rows K) + m) (omega (arith, W.kept.laid.fits)) (omega arith);
        places = omega arith;
        countable = omega (arith, capacity_most most_kept K);
      }

      -- The fact enters.
      pub fact-added : {i : ℕ} {F' K' U' : List ℕ} → place t (rows F) ≡ Err i → length (rows F) < capacity most_facts F → length (rows K) + m ≤ min (capacity most_kept K) (length U)
          → F' ≡ layout (length F) (insert_at i t (rows F)) → Holding (raise_all (first_rows c rs) (kept_of K U)) K U K' U'
          → outcome Applied (tables S F' K' U') ≡ add (tables S F K U) t
      unfolding is_kept_fitting contents_after kept_after applying changed contents_of put
      fact-added {i} {F'} {K'} {U'} p h l f H =
          sym (update-applied Addition passes (enters p) (below p h)
          (rw (no_statement, ← listed) (le-leb (length (raise_all (first_rows c rs) (kept_of K U))) (min (capacity most_kept K) (length U)) (omega (arith, raised-length))))
          ∙ rw (no_statement, ← listed, ← insert_at_gap t (rows F) i p, ← f, ← H.row_words, ← H.support_places, ← W.statements.laid.is_layout) refl)

    -- The fact goes.
    pub fact_withdrawn : {i : ℕ} {F' K' U' : List ℕ} → place t (rows F) ≡ Ok i
        → F' ≡ layout (length F) (remove_at i (rows F)) → Holding (lower_all (first_rows c rs) (kept_of K U)) K U K' U'
        → outcome Applied (tables S F' K' U') ≡ withdraw (tables S F K U) t
    unfolding is_kept_fitting contents_after kept_after applying changed contents_of put
    fact_withdrawn {i} {F'} {K'} {U'} p f H =
        sym (update-applied Withdrawal passes (leaves p) unasked
        (rw (no_statement, ← listed) (le-leb (length (lower_all (first_rows c rs) (kept_of K U))) (min (capacity most_kept K) (length U)) (omega (arith, lower_all-length (first_rows c rs) (kept_of K U), kept_within W))))
        ∙ rw (no_statement, ← listed, ← remove_at-at t (rows F) i p, ← f, ← H.row_words, ← H.support_places, ← W.statements.laid.is_layout) refl)

  -- What `insert_at` asks.
  pub fact_spare : length (rows F) < capacity most_facts F → Spare F
  fact_spare h = spare W.facts (omega arith) h
