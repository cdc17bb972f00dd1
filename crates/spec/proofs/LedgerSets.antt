-- A ledger whose sets ascend and hold allowed rows alone: what follows from them, the facts that carry a row, and whether all fit. Updates that 2
-- and 3 pass keep it so. Assumes nothing.
use mathlib.Core.Path.{◌≡◌, refl}
use mathlib.Core.Bool.{Bool, true, false, cond}
use mathlib.Core.Logic.{⊎_elim}
use mathlib.Core.List.{List, [], ◌∷◌, Memᴰ}
use native.Mathlib.Omega.{arith}
use Rattle.spec.specs.declared.Triple.{Triple}
use Rattle.spec.specs.Terms.{is_triple, is_statement, are_sides_allowed, is_allowed_statement, is_allowed_fact}
use Rattle.spec.specs.Order.{ListOf}
use Rattle.spec.specs.Rules.{FollowsAsFact}
use Rattle.spec.specs.inside.Comparison.{Ascending}
use Rattle.spec.specs.Refusals.{first_refusal, triple_checks}
use Rattle.spec.proofs.Lists.{by_test}
use Rattle.spec.proofs.Ascending.{insert_asc, insert_cases, remove_asc, remove_sub, is_ascending_iff}
use Rattle.spec.specs.Saturation.{kept_rows, kept_supports}
use Rattle.spec.specs.computed.Saturated.{saturation}
use Rattle.spec.proofs.Computed.{saturation_is}
use Rattle.spec.proofs.Kept.{length-kept_rows}
use Rattle.spec.specs.Ledger.{is_fitting}
use Rattle.spec.specs.Tables.{Capacities, Ledger}
use Rattle.spec.specs.declared.Change.{Change}
use Rattle.spec.specs.declared.Change.TheVariants.{Addition, Withdrawal}
use Rattle.spec.specs.Updates.{changed, applying}
use Rattle.spec.specs.Demand3.{graph_of, Supported, FitsBy}

-- Both sets ascend and hold allowed rows alone.
pub record Allowed (L : Ledger) : Type 0 where
  pub statements_ascend : Ascending L.statements
  pub facts_ascend : Ascending L.facts
  pub statements_allowed : (u : Triple) → Memᴰ u L.statements → is_allowed_statement u ≡ true
  pub facts_allowed : (u : Triple) → Memᴰ u L.facts → is_allowed_fact u ≡ true

-- ---- what follows, and what carries it

module _ {L : Ledger} (A : Allowed L) where
  -- The rows of the saturation are the facts that follow, and its supports the numbers of the facts that carry them.
  saturated : ListOf (FollowsAsFact (graph_of L)) (kept_rows (saturation L.statements L.facts))
      × Supported L.statements L.facts (kept_rows (saturation L.statements L.facts)) (kept_supports (saturation L.statements L.facts))
  saturated = saturation_is A.statements_allowed L.facts ((is_ascending_iff L.facts).1 A.facts_ascend) A.facts_allowed

  pub rows_follow : ListOf (FollowsAsFact (graph_of L)) (kept_rows (saturation L.statements L.facts))
  rows_follow = saturated.0

  pub rows_supported : Supported L.statements L.facts (kept_rows (saturation L.statements L.facts)) (kept_supports (saturation L.statements L.facts))
  rows_supported = saturated.1

  -- Question 5 is asked on what follows.
  pub fits_by : (C : Capacities) → FitsBy C.kept L (is_fitting C L)
  unfolding is_fitting
  fits_by C = record {
    kept = kept_rows (saturation L.statements L.facts);
    follow = rows_follow;
    decided = rw (length-kept_rows (saturation L.statements L.facts)) refl;
  }

-- ---- updates

-- A triple that 2 and 3 pass may stand in its set.
passed : (a b : Bool) → first_refusal ((2, a) ∷ (3, b) ∷ []) ≡ 0 → (a ≡ true) × (b ≡ true)
unfolding first_refusal
passed true true e = (refl, refl)
passed true false e = absurd (omega arith)
passed false b e = absurd (omega arith)

passed_statement : (t : Triple) → first_refusal (triple_checks t) ≡ 0 → is_statement t ≡ true → is_allowed_statement t ≡ true
unfolding is_allowed_statement
passed_statement t e s = let p = passed (is_triple t) (cond (is_statement t) (are_sides_allowed t) true) e in rw (p.0, s) (rw s at p.1)

passed_fact : (t : Triple) → first_refusal (triple_checks t) ≡ 0 → is_statement t ≡ false → is_allowed_fact t ≡ true
unfolding is_allowed_fact
passed_fact t e s = let p = passed (is_triple t) (cond (is_statement t) (are_sides_allowed t) true) e in rw (p.0, s) refl

-- A set that ascends does so after an update,
changed_ascends : (d : Change) (t : Triple) (F : List Triple) → Ascending F → Ascending (changed d t F)
unfolding changed
changed_ascends Addition t F a = insert_asc t F a
changed_ascends Withdrawal t F a = remove_asc t F a

-- and a test that each of its rows and t pass, each row after it passes.
changed_passes : (d : Change) (test : Triple → Bool) (t : Triple) (F : List Triple) → test t ≡ true → ((u : Triple) → Memᴰ u F → test u ≡ true) → (u : Triple) → Memᴰ u (changed d t F) → test u ≡ true
unfolding changed
changed_passes Addition test t F e h u m = ⊎_elim (λ (q : u ≡ t). rw q e) (h u) (insert_cases t F m)
changed_passes Withdrawal test t F e h u m = h u (remove_sub t F m)

-- So an update of such a triple keeps the sets allowed.
pub applying_allowed : (d : Change) (t : Triple) (L : Ledger) → Allowed L → first_refusal (triple_checks t) ≡ 0 → Allowed (applying d t L)
unfolding applying
applying_allowed d t L A e =
    by_test (is_statement t)
    (λ s. rw s (record {
      statements_ascend = changed_ascends d t L.statements A.statements_ascend;
      facts_ascend = A.facts_ascend;
      statements_allowed = changed_passes d is_allowed_statement t L.statements (passed_statement t e s) A.statements_allowed;
      facts_allowed = A.facts_allowed;
    }))
    (λ s. rw s (record {
      statements_ascend = A.statements_ascend;
      facts_ascend = changed_ascends d t L.facts A.facts_ascend;
      statements_allowed = A.statements_allowed;
      facts_allowed = changed_passes d is_allowed_fact t L.facts (passed_fact t e s) A.facts_allowed;
    }))
