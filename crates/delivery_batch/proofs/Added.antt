-- A section of facts that are added, taken together: where the facts and what they carry fit at the end, each entry fits on its way, and the store
-- and the tallies are those of the entries run one by one. For any well-formed store. Assumes nothing.
use Prim.Native.Nat.{ℕ, suc, ◌+◌, ◌≤◌, ◌<◌, min}
use mathlib.Core.Path.{◌≡◌, refl, sym, ap, subst, ◌∙◌}
use mathlib.Core.Bool.{true, false, not}
use mathlib.Core.Logic.{⊎_elim}
use mathlib.Core.List.{List, [], ◌∷◌, flat_map, Memᴰ}
use native.Mathlib.Omega.{arith}
use lib.ListN.{length}
use borrow.Author.Tests.{not-true, lt-ltb}
use Rattle.spec.specs.declared.Triple.{Triple}
use Rattle.spec.specs.Terms.{is_triple, is_statement}
use Rattle.spec.specs.Lists.{all, select, padded}
use Rattle.spec.specs.Order.{insert}
use Rattle.spec.specs.Saturation.{Kept, raise_all, kept_rows, kept_supports}
use Rattle.spec.specs.computed.Carried.{carried}
use Rattle.spec.specs.inside.Comparison.{Ascending}
use Rattle.spec.specs.inside.Counts.{Counts}
use Rattle.spec.specs.inside.Pairs.{progress}
use Rattle.spec.specs.inside.Laid.{FormedStore}
use Rattle.spec.specs.Tables.{most_facts, most_kept, capacity, count, rows, layout, kept_of, Tables, tables, are_formed, Capacities, capacities_of, ledger, Ledger, Contents, contents, contents_of, put}
use Rattle.spec.specs.declared.Answer.TheVariants.{Applied, Idle, Refused}
use Rattle.spec.specs.declared.Change.TheVariants.{Addition}
use Rattle.spec.specs.declared.Tally.{Tally}
use Rattle.spec.specs.Updates.{changed, applying, is_change, is_admitted, kept_after, contents_after, update}
use Rattle.spec.specs.Deliveries.{is_fact, tally, tallied, run_entries}
use Rattle.spec.proofs.Lists.{by_test}
use Rattle.spec.proofs.Ascending.{and_left, and_right}
use Rattle.spec.proofs.Saturation.{raise_all-length}
use Rattle.spec.proofs.Outcomes.{member_yes, member_no}
use Rattle.spec.proofs.TableRows.{length-rows}
use Rattle.table.proofs.Store.{is_store_formed, formed_is_store}
use Rattle.update_kept.proofs.Formed.{kept_rows_kept_of, length_kept_of}
use Rattle.update_raise.proofs.Missing.{insert_new-length}
use Rattle.store.proofs.Passing.{fact_allowed}
use Rattle.store.proofs.Fitting.{Fitting, Worded, put_formed, formed_fitting, formed_worded}
use Rattle.store.proofs.Applied.{fitting_counts, fact_enters}
use Rattle.delivery_batch.specs.inside.Batches.{carried_all, missing, insert_all, passing, coming, with_facts, tally_after}
use Rattle.delivery_batch.proofs.Members.{member_or, missing_known, missing_new, missing_gone, missing_few, insert_all-insert, missing_nil}
use Rattle.delivery_batch.proofs.Carrying.{raise_all-carried, raise_all-missing}
use Rattle.delivery_batch.proofs.Tallied.{run_first, tally_none, tally_refused, tally_idle, tally_applied}
use Rattle.delivery_batch.proofs.Held.{fact_passes, put_held, held_refused, held_idle, held_applied}

-- ---- the contents after one fact

-- What a fact makes of the contents.
pub fact-added : (t : Triple) (c : Contents) → is_statement t ≡ false → contents_after Addition t c ≡ contents (ledger c.explicit.statements (insert t c.explicit.facts)) (raise_all (carried c.explicit.statements t) c.kept)
unfolding contents_after applying changed kept_after
fact-added t c s = rw s refl

-- No fact makes nothing of them,
pub with_facts_none : (c : Contents) → with_facts [] c ≡ c
unfolding with_facts insert_all raise_all carried_all flat_map
with_facts_none c = refl

-- and of several one can be added first.
pub with_facts-insert : (t : Triple) (ts : List Triple) (c : Contents) → is_statement t ≡ false → Ascending c.explicit.facts → Counts c.kept → ¬ Memᴰ t ts → with_facts (insert t ts) c ≡ with_facts ts (contents_after Addition t c)
unfolding with_facts
with_facts-insert t ts c s a k n =
    rw (fact-added t c s, insert_all-insert t ts c.explicit.facts a, raise_all-carried c.explicit.statements t ts c.kept k n) refl

-- ---- one entry

-- What is there already changes nothing,
known_idle : (t : Triple) (L : Ledger) → is_statement t ≡ false → Memᴰ t L.facts → is_change Addition t L ≡ false
unfolding is_change
known_idle t L s m = ap not (member_yes t L (rw s m))

-- what is not does,
new_changes : (t : Triple) (L : Ledger) → is_statement t ≡ false → ¬ Memᴰ t L.facts → is_change Addition t L ≡ true
unfolding is_change
new_changes t L s n = ap not (member_no t L (rw s n))

-- and is admitted below the capacity.
new_admitted : (t : Triple) (L : Ledger) (C : Capacities) → is_statement t ≡ false → ¬ Memᴰ t L.facts → length L.facts < C.facts → is_admitted C Addition t L ≡ true
unfolding is_admitted
new_admitted t L C s n h = rw (member_no t L (rw s n), s) (lt-ltb (length L.facts) C.facts h)

-- ---- the entries of a section

-- Entries that bring the facts N, run over tables of the lengths of T that hold c: the tables hold c with N, well formed, and so many were applied.
pub record Added (es : List Triple) (c : Contents) (T : Tables) (N : List Triple) (y : Tally) : Type 0 where
  pub ran : run_entries (update Addition) es (progress (put c T) y) ≡ progress (put (with_facts N c) T) (tally_after (length N) es y)
  pub fits : Fitting (with_facts N c) T

-- They do so where the facts and the kept facts fit at the end.
abbrev Adds : List Triple → Contents → Tables → List Triple → Type 0
Adds es c T N =
    length c.explicit.facts + length N ≤ (capacities_of T).facts → length (raise_all (carried_all c.explicit.statements N) c.kept) ≤ (capacities_of T).kept
    → (y : Tally) → Added es c T N y

-- No entry.
adds_none : {c : Contents} {T : Tables} → Fitting c T → Adds [] c T []
unfolding run_entries
adds_none {c} {T} X h k y = record { ran = rw (with_facts_none c, tally_none y) refl; fits = rw (with_facts_none c) X }

module _ {c : Contents} {T : Tables} (X : Fitting c T) (H : Worded T) (t : Triple) (s : is_statement t ≡ false) (es N : List Triple) where
  -- It is no triple,
  adds_refused : is_triple t ≡ false → Adds es c T N → Adds (t ∷ es) c T N
  adds_refused e B h k y =
      let r = B h k (tallied (Refused 2) y) in
      record {
        ran = run_first (update Addition) t es (Refused 2) y (held_refused Addition X H t s e) ∙ r.ran ∙ ap (progress (put (with_facts N c) T)) (tally_refused 2 (length N) t es y e);
        fits = r.fits;
      }

  -- it is there already,
  adds_idle : is_triple t ≡ true → Memᴰ t c.explicit.facts → length N ≤ length (passing es) → Adds es c T N → Adds (t ∷ es) c T N
  adds_idle e m l B h k y =
      let r = B h k (tallied Idle y) in
      record {
        ran = run_first (update Addition) t es Idle y (held_idle Addition X H t s e (known_idle t c.explicit s m)) ∙ r.ran ∙ ap (progress (put (with_facts N c) T)) (tally_idle (length N) t es y e l);
        fits = r.fits;
      }

  -- or it is new.
  adds_new : is_triple t ≡ true → ¬ Memᴰ t c.explicit.facts → ¬ Memᴰ t N → (Fitting (contents_after Addition t c) T → Adds es (contents_after Addition t c) T N) → Adds (t ∷ es) c T (insert t N)
  adds_new e n o B h k y =
      let S : List Triple = c.explicit.statements in
      let F : List Triple = c.explicit.facts in
      let c' : Contents = contents_after Addition t c in
      let a : Counts c.kept = fitting_counts X in
      let is = fact-added t c s in
      let more : length (insert t N) ≡ suc (length N) = insert_new-length t N o in
      let end : raise_all (carried_all S (insert t N)) c.kept ≡ raise_all (carried_all S N) (raise_all (carried S t) c.kept) = raise_all-carried S t N c.kept a o in
      let k' : length (raise_all (carried_all S N) (raise_all (carried S t) c.kept)) ≤ (capacities_of T).kept = rw (← end) k in
      let changes = new_changes t c.explicit s n in
      let admitted = new_admitted t c.explicit (capacities_of T) s n (omega arith) in
      let few : length c'.kept ≤ (capacities_of T).kept = rw is (omega (arith, raise_all-length (carried_all S N) (raise_all (carried S t) c.kept))) in
      let X' : Fitting c' T = fact_enters X t (fact_passes t e s) s (fact_allowed t e s) n changes admitted few in
      let r = B X' (rw is (omega (arith, insert_new-length t F n))) (rw is k') (tallied Applied y) in
      let same : with_facts (insert t N) c ≡ with_facts N c' = with_facts-insert t N c s X.sets.facts_ascend a o in
      record {
        ran = run_first (update Addition) t es Applied y (held_applied Addition X H t s e changes admitted few) ∙ r.ran
            ∙ rw (same, more) (ap (progress (put (with_facts N c') T)) (tally_applied (length N) t es y e));
        fits = rw same r.fits;
      }

-- The facts that entries bring: the first is no triple,
coming_refused : (F : List Triple) (t : Triple) (es : List Triple) → is_triple t ≡ false → coming F (t ∷ es) ≡ coming F es
unfolding select
coming_refused F t es e = rw e

-- or it is one.
coming-triple : (F : List Triple) (t : Triple) (es : List Triple) → is_triple t ≡ true → coming F (t ∷ es) ≡ missing F (t ∷ passing es)
unfolding select
coming-triple F t es e = rw e

-- All entries.
adds-all : (es : List Triple) {c : Contents} {T : Tables} → Fitting c T → Worded T → all is_fact es ≡ true → Adds es c T (coming c.explicit.facts es)
unfolding all select
adds-all [] {c} X H f = rw (missing_nil c.explicit.facts) (adds_none X)
adds-all (t ∷ es) {c} {T} X H f =
    let F : List Triple = c.explicit.facts in
    let s : is_statement t ≡ false = not-true (is_statement t) (and_left (is_fact t) _ f) in
    let g = and_right (is_fact t) _ f in
    by_test (is_triple t)
    (λ e. ⊎_elim
    (λ m. subst (Adds (t ∷ es) c T) (sym (coming-triple F t es e ∙ missing_known F t (passing es) m)) (adds_idle X H t s es (coming F es) e m (missing_few F (passing es)) (adds-all es X H g)))
    (λ n. subst (Adds (t ∷ es) c T) (sym (coming-triple F t es e ∙ missing_new F t (passing es) n))
    (adds_new X H t s es (missing (insert t F) (passing es)) e n (missing_gone F t (passing es)) (λ X'.
    let is : (contents_after Addition t c).explicit.facts ≡ insert t F = ap (λ (d : Contents). d.explicit.facts) (fact-added t c s) in
    subst (λ (G : List Triple). Adds es (contents_after Addition t c) T (coming G es)) is (adds-all es X' H g))))
    (member_or t F))
    (λ e. subst (Adds (t ∷ es) c T) (sym (coming_refused F t es e)) (adds_refused X H t s es (coming F es) e (adds-all es X H g)))

-- ---- a section of facts over a well-formed store

-- Over any well-formed store the entries come to what they bring, taken together,
pub facts-added : (T : Tables) (es : List Triple) → are_formed T ≡ true → all is_fact es ≡ true
    → length (contents_of T).explicit.facts + length (coming (contents_of T).explicit.facts es) ≤ (capacities_of T).facts
    → length (raise_all (carried_all (contents_of T).explicit.statements (coming (contents_of T).explicit.facts es)) (contents_of T).kept) ≤ (capacities_of T).kept
    → (y : Tally)
    → run_entries (update Addition) es (progress T y)
    ≡ progress (put (with_facts (coming (contents_of T).explicit.facts es) (contents_of T)) T) (tally_after (length (coming (contents_of T).explicit.facts es)) es y)
facts-added T es e f h k y =
    ap (λ (U : Tables). run_entries (update Addition) es (progress U y)) (sym (put_held T e))
    ∙ (adds-all es (formed_fitting T e) (formed_worded T e) f h k y).ran

-- which leaves it well formed.
pub facts-added_formed : (T : Tables) (es : List Triple) → are_formed T ≡ true → all is_fact es ≡ true
    → length (contents_of T).explicit.facts + length (coming (contents_of T).explicit.facts es) ≤ (capacities_of T).facts
    → length (raise_all (carried_all (contents_of T).explicit.statements (coming (contents_of T).explicit.facts es)) (contents_of T).kept) ≤ (capacities_of T).kept
    → are_formed (put (with_facts (coming (contents_of T).explicit.facts es) (contents_of T)) T) ≡ true
facts-added_formed T es e f h k =
    put_formed (adds-all es (formed_fitting T e) (formed_worded T e) f h k (tally 0 0 0)).fits (formed_worded T e)

-- Of a well-formed store those rows enter that its kept facts lack, each once.
pub formed-missing : {S F K U : List ℕ} → FormedStore S F K U → (ts : List Triple) → length (raise_all ts (kept_of K U)) ≡ count K + length (missing (rows K) ts)
unfolding contents_of
formed-missing {S} {F} {K} {U} W ts =
    let a : Counts (kept_of K U) = fitting_counts (formed_fitting (tables S F K U) (formed_is_store W)) in
    let e : length (raise_all ts (kept_of K U)) ≡ length (kept_of K U) + length (missing (rows K) ts) = rw (← kept_rows_kept_of W) (raise_all-missing ts (kept_of K U) a) in
    omega (arith, e, length_kept_of W, length-rows K)

-- The same by the words of the tables: N the facts that come, k the kept facts once all that N carries is raised.
module _ {S F K U : List ℕ} (W : FormedStore S F K U) (es N : List Triple) (k : Kept) (f : all is_fact es ≡ true) (n : N ≡ coming (rows F) es) (r : k ≡ raise_all (carried_all (rows S) N) (kept_of K U))
    (h : count F + length N ≤ capacity most_facts F) (l : length k ≤ min (capacity most_kept K) (length U)) where
  few_facts : length (rows F) + length (coming (rows F) es) ≤ capacity most_facts F
  few_facts = rw (← n, length-rows F) h

  few_kept : length (raise_all (carried_all (rows S) (coming (rows F) es)) (kept_of K U)) ≤ min (capacity most_kept K) (length U)
  few_kept = rw (← n, ← r) l

  -- The words that hold both,
  words_are : tables S (layout (length F) (insert_all N (rows F))) (layout (length K) (kept_rows k)) (padded (length U) (kept_supports k)) ≡ put (with_facts (coming (rows F) es) (contents_of (tables S F K U))) (tables S F K U)
  unfolding put with_facts contents_of
  words_are = rw (← n, ← r, ← W.statements.laid.is_layout) refl

  -- with the tallies, are what the entries run one by one leave,
  pub words-added : (y : Tally) → progress (tables S (layout (length F) (insert_all N (rows F))) (layout (length K) (kept_rows k)) (padded (length U) (kept_supports k))) (tally_after (length N) es y) ≡ run_entries (update Addition) es (progress (tables S F K U) y)
  unfolding contents_of
  words-added y =
      rw (words_are, n) (sym (facts-added (tables S F K U) es (formed_is_store W) f few_facts few_kept y))

  -- and are well formed.
  pub words_formed : FormedStore S (layout (length F) (insert_all N (rows F))) (layout (length K) (kept_rows k)) (padded (length U) (kept_supports k))
  unfolding contents_of
  words_formed =
      is_store_formed S (layout (length F) (insert_all N (rows F))) (layout (length K) (kept_rows k)) (padded (length U) (kept_supports k))
      (rw words_are (facts-added_formed (tables S F K U) es (formed_is_store W) f few_facts few_kept))
