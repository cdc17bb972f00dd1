-- What an applied update makes of contents that fit: contents that fit again. Assumes nothing.
use Prim.Native.Nat.{ℕ, suc, ◌≤◌}
use mathlib.Core.Path.{◌≡◌, refl}
use mathlib.Core.Bool.{true, false, cond}
use mathlib.Core.Logic.{⊎_elim}
use mathlib.Core.List.Memᴰ
use mathlib.Core.List.{List, [], ◌∷◌, Memᴰ}
use native.Mathlib.Omega.{arith}
use lib.ListN.{length}
use lib.Dec.{ltb}
use borrow.Author.Tests.{not-true, ltb-true}
use Rattle.spec.specs.declared.Triple.{Triple}
use Rattle.spec.specs.Terms.{is_statement, is_allowed_fact}
use Rattle.spec.specs.inside.Comparison.{Ascending}
use Rattle.spec.proofs.Tests.{same_elim}
use Rattle.spec.proofs.Ascending.{insert-length, remove-length}
use Rattle.spec.specs.Saturation.{Kept, raise_all, lower_all, kept_rows, kept_supports}
use Rattle.spec.specs.computed.Saturated.{saturation}
use Rattle.spec.specs.computed.Carried.{carried}
use Rattle.spec.specs.inside.Counts.{Counts, lookup}
use Rattle.spec.proofs.Lists.{by_test}
use Rattle.spec.proofs.Entailment.{allowed_no_vocabulary, holds_allowed}
use Rattle.spec.proofs.Carried.{carried_ascends, carried_iff}
use Rattle.spec.proofs.Kept.{counts_of, support_of, kept_positive, kept_ascends, lookup_kept}
use Rattle.spec.proofs.Saturation.{among-bound, raise_all_counts, lookup-raise_all, lookup-lower_all, lower_all_counts, lower_all-length, saturation_ascends, saturation_allowed, saturation_supports, lower-saturation}
use Rattle.spec.specs.Tables.{Tables, Contents, contents, Capacities, capacities_of, Ledger}
use Rattle.spec.specs.Refusals.{first_refusal, triple_checks}
use Rattle.spec.specs.declared.Change.{Change}
use Rattle.spec.specs.declared.Change.TheVariants.{Addition, Withdrawal}
use Rattle.spec.specs.Updates.{set_of, is_member, changed, applying, is_change, is_admitted, kept_after, contents_after}
use Rattle.spec.proofs.LedgerSets.{Allowed, applying_allowed}
use Rattle.update_raise.proofs.Missing.{raise_all_asc, raise_all_cases, insert_new-length}
use Rattle.store.proofs.Fitting.{Fitting}

-- ---- supports

-- No support is above a bound of all.
pub lookup-bound : (k : Kept) (b : ℕ) → ((n : ℕ) → Memᴰ n (kept_supports k) → n ≤ b) → (u : Triple) → lookup k u ≤ b
unfolding lookup
lookup-bound [] b h u = omega arith
lookup-bound (e ∷ k) b h u = same_elim (λ (n : ℕ). n ≤ b) u e.0 (λ _. h e.1 (Memᴰ.head refl)) (λ _. lookup-bound k b (λ n m. h n (Memᴰ.tail m)) u)

-- Raising ascending rows adds at most 1 to a support.
raised_supports : (ts : List Triple) (k : Kept) (b : ℕ) → Ascending ts → Counts k → ((n : ℕ) → Memᴰ n (kept_supports k) → n ≤ b) → (n : ℕ) → Memᴰ n (kept_supports (raise_all ts k)) → (1 ≤ n) × (n ≤ suc b)
raised_supports ts k b o a h n m =
    let r = support_of (raise_all ts k) n (raise_all_counts ts k a) m in
    (kept_positive (raise_all ts k) (raise_all_counts ts k a) n m, omega (arith, r.supported, lookup-raise_all ts k r.row o a, among-bound r.row ts, lookup-bound k b h r.row))

-- ---- the sets after an update

-- The facts after the update of a fact,
pub facts_after : (d : Change) (t : Triple) (L : Ledger) → is_statement t ≡ false → (applying d t L).facts ≡ changed d t L.facts
unfolding applying
facts_after d t L s = rw s refl

-- and the statements, which stay.
pub statements_after : (d : Change) (t : Triple) (L : Ledger) → is_statement t ≡ false → (applying d t L).statements ≡ L.statements
unfolding applying
statements_after d t L s = rw s refl

-- Sets that fit do so after an update that changes them and that 4 admits.
pub admitted_fits : (d : Change) (t : Triple) (L : Ledger) (C : Capacities) → is_change d t L ≡ true → is_admitted C d t L ≡ true
    → length L.statements ≤ C.statements → length L.facts ≤ C.facts → (length (applying d t L).statements ≤ C.statements) × (length (applying d t L).facts ≤ C.facts)
unfolding applying changed is_change is_admitted
admitted_fits Addition t L C c e h k =
    let below : ltb (length (set_of t L)) (cond (is_statement t) C.statements C.facts) ≡ true = rw (not-true (is_member t L) c) at e in
    by_test (is_statement t)
    (λ s. rw s (omega (arith, insert-length t L.statements, ltb-true (length L.statements) C.statements (rw s at below)), k))
    (λ s. rw s (h, omega (arith, insert-length t L.facts, ltb-true (length L.facts) C.facts (rw s at below))))
admitted_fits Withdrawal t L C c e h k =
    by_test (is_statement t)
    (λ s. rw s (omega (arith, remove-length t L.statements), k))
    (λ s. rw s (h, omega (arith, remove-length t L.facts)))

-- ---- contents worked out afresh

-- Sets that fit, with their saturation.
pub saturation_fitting : {T : Tables} (L : Ledger) → Allowed L → length L.statements ≤ (capacities_of T).statements → length L.facts ≤ (capacities_of T).facts
    → length (saturation L.statements L.facts) ≤ (capacities_of T).kept → Fitting (contents L (saturation L.statements L.facts)) T
saturation_fitting L A s f k = record {
  sets = A;
  kept_ascend = saturation_ascends L.statements L.facts;
  kept_allowed = saturation_allowed L.statements L.facts A.statements_allowed A.facts_allowed;
  statements_fit = s;
  facts_fit = f;
  kept_fit = k;
  supports_between = saturation_supports L.statements L.facts;
}

-- ---- the contents after each update

module _ {c : Contents} {T : Tables} (X : Fitting c T) (t : Triple) (p : first_refusal (triple_checks t) ≡ 0) where
  -- A statement enters or goes: 4 admits it, and the kept facts fit.
  pub statement_changes : (d : Change) → is_statement t ≡ true → is_change d t c.explicit ≡ true → is_admitted (capacities_of T) d t c.explicit ≡ true
      → length (contents_after d t c).kept ≤ (capacities_of T).kept → Fitting (contents_after d t c) T
  unfolding contents_after
  statement_changes d s b e k =
      let f = admitted_fits d t c.explicit (capacities_of T) b e X.statements_fit X.facts_fit in
      rw s (saturation_fitting (applying d t c.explicit) (applying_allowed d t c.explicit X.sets p) f.0 f.1 (rw s at k))

  -- A fact enters.
  pub fact_enters : is_statement t ≡ false → is_allowed_fact t ≡ true → ¬ Memᴰ t c.explicit.facts → is_change Addition t c.explicit ≡ true → is_admitted (capacities_of T) Addition t c.explicit ≡ true
      → length (contents_after Addition t c).kept ≤ (capacities_of T).kept → Fitting (contents_after Addition t c) T
  unfolding contents_after kept_after changed
  fact_enters s a n b e k =
      let S : List Triple = c.explicit.statements in
      let F : List Triple = c.explicit.facts in
      let f = admitted_fits Addition t c.explicit (capacities_of T) b e X.statements_fit X.facts_fit in
      let more : length (applying Addition t c.explicit).facts ≡ suc (length F) = rw (facts_after Addition t c.explicit s) (insert_new-length t F n) in
      let counts = counts_of c.kept X.kept_ascend (λ m i. let u = X.supports_between m i in omega (arith, u.0)) in
      rw s (record {
        sets = applying_allowed Addition t c.explicit X.sets p;
        kept_ascend = raise_all_asc (carried S t) c.kept X.kept_ascend;
        kept_allowed = λ u m.
            ⊎_elim
            (λ i. holds_allowed X.sets.statements_allowed (λ v j. let q : v ≡ t = Memᴰ.eq_of_singleton j in rw q a) ((carried_iff S t u (allowed_no_vocabulary S X.sets.statements_allowed)).0 i))
            (X.kept_allowed u) (raise_all_cases (carried S t) c.kept m);
        statements_fit = f.0;
        facts_fit = f.1;
        kept_fit = rw s at k;
        supports_between = λ m i. rw more (raised_supports (carried S t) c.kept (length F) (carried_ascends S t) counts (λ j u. (X.supports_between j u).1) m i);
      })

  -- A fact goes, and the kept facts are the saturation.
  pub fact_goes : is_statement t ≡ false → c.kept ≡ saturation c.explicit.statements c.explicit.facts → Memᴰ t c.explicit.facts → is_change Withdrawal t c.explicit ≡ true → Fitting (contents_after Withdrawal t c) T
  unfolding contents_after kept_after changed is_admitted
  fact_goes s e m b =
      let L : Ledger = applying Withdrawal t c.explicit in
      let f = admitted_fits Withdrawal t c.explicit (capacities_of T) b refl X.statements_fit X.facts_fit in
      let is : lower_all (carried c.explicit.statements t) c.kept ≡ saturation L.statements L.facts = rw (facts_after Withdrawal t c.explicit s, statements_after Withdrawal t c.explicit s, e) (lower-saturation c.explicit.statements c.explicit.facts t m) in
      let few : length (saturation L.statements L.facts) ≤ (capacities_of T).kept = rw (← is) (let h = X.kept_fit in omega (arith, lower_all-length (carried c.explicit.statements t) c.kept)) in
      rw (s, is) (saturation_fitting L (applying_allowed Withdrawal t c.explicit X.sets p) f.0 f.1 few)

-- ---- a fact goes, whatever the kept facts are

-- Lowering raises no support,
lowered-lookup : (ts : List Triple) (k : Kept) → Ascending ts → Counts k → (u : Triple) → lookup (lower_all ts k) u ≤ lookup k u
lowered-lookup ts k o a u = omega (arith, lookup-lower_all ts k u o a)

-- so that no support passes a bound of all,
pub lowered_supports : (ts : List Triple) (k : Kept) (b : ℕ) → Ascending ts → Counts k → ((n : ℕ) → Memᴰ n (kept_supports k) → n ≤ b) → (n : ℕ) → Memᴰ n (kept_supports (lower_all ts k)) → n ≤ b
lowered_supports ts k b o a h n m =
    let r = support_of (lower_all ts k) n (lower_all_counts ts k a) m in
    omega (arith, r.supported, lowered-lookup ts k o a r.row, lookup-bound k b h r.row)

-- and the rows left are some of those before.
lowered-rows : (ts : List Triple) (k : Kept) → Ascending ts → Counts k → (u : Triple) → Memᴰ u (kept_rows (lower_all ts k)) → Memᴰ u (kept_rows k)
lowered-rows ts k o a u m = (lookup_kept k u a).0 (omega (arith, (lookup_kept (lower_all ts k) u (lower_all_counts ts k a)).1 m, lowered-lookup ts k o a u))

-- Kept facts that fit ascend, with supports of at least 1.
pub fitting_counts : {c : Contents} {T : Tables} → Fitting c T → Counts c.kept
fitting_counts {c} X = counts_of c.kept X.kept_ascend (λ m i. let b = X.supports_between m i in omega (arith, b.0))

-- What is left fits where no support is above the number of facts left.
pub fact-leaves : {c : Contents} {T : Tables} → Fitting c T → (t : Triple) → first_refusal (triple_checks t) ≡ 0 → is_statement t ≡ false → is_change Withdrawal t c.explicit ≡ true
    → ((n : ℕ) → Memᴰ n (kept_supports (contents_after Withdrawal t c).kept) → n ≤ length (contents_after Withdrawal t c).explicit.facts) → Fitting (contents_after Withdrawal t c) T
unfolding contents_after kept_after is_admitted
fact-leaves {c} {T} X t p s b h =
    let ts : List Triple = carried c.explicit.statements t in
    let o = carried_ascends c.explicit.statements t in
    let a = fitting_counts X in
    let left = lower_all_counts ts c.kept a in
    let f = admitted_fits Withdrawal t c.explicit (capacities_of T) b refl X.statements_fit X.facts_fit in
    rw s (record {
      sets = applying_allowed Withdrawal t c.explicit X.sets p;
      kept_ascend = kept_ascends (lower_all ts c.kept) left;
      kept_allowed = λ u i. X.kept_allowed u (lowered-rows ts c.kept o a u i);
      statements_fit = f.0;
      facts_fit = f.1;
      kept_fit = let k = X.kept_fit in omega (arith, lower_all-length ts c.kept);
      supports_between = λ n i. (kept_positive (lower_all ts c.kept) left n i, (rw s at h) n i);
    })
