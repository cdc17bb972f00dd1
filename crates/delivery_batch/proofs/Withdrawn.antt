-- A section of facts that are withdrawn, taken together: for a row the facts left less its support never rise, so that where no support is above the
-- number of facts at the end, none is on the way, and the store and the tallies are those of the entries run one by one. For any well-formed store.
-- Assumes nothing.
use Prim.Native.Nat.{ℕ, suc, ◌+◌, ◌≤◌}
use mathlib.Core.Path.{◌≡◌, refl, sym, ap, subst, ◌∙◌}
use mathlib.Core.Bool.{true, false}
use mathlib.Core.Logic.{⊎_elim}
use mathlib.Core.List.{List, [], ◌∷◌, flat_map, Memᴰ}
use native.Mathlib.Omega.{arith}
use lib.ListN.{length, take}
use borrow.Author.Tests.{not-true}
use Rattle.spec.specs.declared.Triple.{Triple}
use Rattle.spec.specs.Terms.{is_triple, is_statement}
use Rattle.spec.specs.Lists.{all, select, padded}
use Rattle.spec.specs.Order.{insert, remove}
use Rattle.spec.specs.Saturation.{Kept, lower_all, kept_rows, kept_supports}
use Rattle.spec.specs.computed.Carried.{carried}
use Rattle.spec.specs.inside.Comparison.{Ascending}
use Rattle.spec.specs.inside.Counts.{Counts, lookup}
use Rattle.spec.specs.inside.Laid.{FormedStore}
use Rattle.spec.specs.inside.Pairs.{progress}
use Rattle.spec.specs.Tables.{count, rows, layout, kept_of, Tables, tables, are_formed, capacities_of, ledger, Ledger, Contents, contents, contents_of, put}
use Rattle.spec.specs.declared.Answer.TheVariants.{Applied, Idle, Refused}
use Rattle.spec.specs.declared.Change.TheVariants.{Withdrawal}
use Rattle.spec.specs.declared.Tally.{Tally}
use Rattle.spec.specs.Updates.{changed, applying, is_change, is_admitted, kept_after, contents_after, update}
use Rattle.spec.specs.Deliveries.{is_fact, tally, tallied, run_entries}
use Rattle.spec.proofs.Lists.{by_test}
use Rattle.spec.proofs.Ascending.{remove_asc, and_left, and_right}
use Rattle.spec.proofs.Kept.{support_of}
use Rattle.spec.proofs.Saturation.{lower_all_counts, lower_all-length}
use Rattle.spec.proofs.Outcomes.{member_yes, member_no}
use Rattle.spec.proofs.TableRows.{length-rows}
use Rattle.table.proofs.Store.{is_store_formed, formed_is_store}
use Rattle.update_raise.proofs.Missing.{insert_new-length}
use Rattle.store.proofs.Fitting.{contents_of-put, Fitting, Worded, put_formed, supports_are, formed_fitting, formed_worded}
use Rattle.store.proofs.Applied.{lookup-bound, fitting_counts, fact-leaves}
use Rattle.delivery_batch.specs.inside.Batches.{carried_all, present, remove_all, passing, going, without_facts, tally_after}
use Rattle.delivery_batch.proofs.Times.{lower_all-times}
use Rattle.delivery_batch.proofs.Members.{member_or, present_nil, present_lacked, present_first, present_gone, present_few, remove_all-insert, remove_all-present}
use Rattle.delivery_batch.proofs.Carrying.{carried_all_few, lower_all-carried}
use Rattle.delivery_batch.proofs.Tallied.{run_first, tally_none, tally_refused, tally_idle, tally_applied}
use Rattle.delivery_batch.proofs.Held.{fact_passes, put_held, held_refused, held_idle, held_applied}

-- ---- the contents after one fact

-- What a fact that goes makes of the contents.
pub fact_withdrawn : (t : Triple) (c : Contents) → is_statement t ≡ false → contents_after Withdrawal t c ≡ contents (ledger c.explicit.statements (remove t c.explicit.facts)) (lower_all (carried c.explicit.statements t) c.kept)
unfolding contents_after applying changed kept_after
fact_withdrawn t c s = rw s refl

-- No fact makes nothing of them,
pub without_facts_none : (c : Contents) → without_facts [] c ≡ c
unfolding without_facts remove_all lower_all carried_all flat_map
without_facts_none c = refl

-- and of several one can be withdrawn first.
pub without_facts-insert : (t : Triple) (ts : List Triple) (c : Contents) → is_statement t ≡ false → Ascending c.explicit.facts → Counts c.kept → ¬ Memᴰ t ts → without_facts (insert t ts) c ≡ without_facts ts (contents_after Withdrawal t c)
unfolding without_facts
without_facts-insert t ts c s a k n =
    rw (fact_withdrawn t c s, remove_all-insert t ts c.explicit.facts a, lower_all-carried c.explicit.statements t ts c.kept k n) refl

-- ---- supports and the facts left

-- Lowering, whatever the rows, lets no support pass a bound of all.
pub lowered-within : (ts : List Triple) (k : Kept) (b : ℕ) → Counts k → ((n : ℕ) → Memᴰ n (kept_supports k) → n ≤ b) → (n : ℕ) → Memᴰ n (kept_supports (lower_all ts k)) → n ≤ b
lowered-within ts k b a h n m =
    let r = support_of (lower_all ts k) n (lower_all_counts ts k a) m in
    omega (arith, r.supported, lower_all-times ts k r.row a, lookup-bound k b h r.row)

-- Each of some facts lowers a row by 1 at most: a support that is within the number of facts once they have gone was within it before.
pub support_before : (S N : List Triple) (k : Kept) (u : Triple) (left : ℕ) → Counts k → lookup (lower_all (carried_all S N) k) u ≤ left → lookup k u ≤ left + length N
support_before S N k u left a h = omega (arith, lower_all-times (carried_all S N) k u a, carried_all_few S N u)

-- ---- one entry

-- What is there changes something when it goes,
known_changes : (t : Triple) (L : Ledger) → is_statement t ≡ false → Memᴰ t L.facts → is_change Withdrawal t L ≡ true
unfolding is_change
known_changes t L s m = member_yes t L (rw s m)

-- and what is not changes nothing.
lacked_idle : (t : Triple) (L : Ledger) → is_statement t ≡ false → ¬ Memᴰ t L.facts → is_change Withdrawal t L ≡ false
unfolding is_change
lacked_idle t L s n = member_no t L (rw s n)

-- ---- the entries of a section

-- Entries that take the facts N, run over tables of the lengths of T that hold c: the tables hold c without N, well formed, and so many were applied.
pub record Withdrawn (es : List Triple) (c : Contents) (T : Tables) (N : List Triple) (y : Tally) : Type 0 where
  pub ran : run_entries (update Withdrawal) es (progress (put c T) y) ≡ progress (put (without_facts N c) T) (tally_after (length N) es y)
  pub fits : Fitting (without_facts N c) T

-- They do so where no support is above the number of facts at the end.
abbrev Withdraws : List Triple → Contents → Tables → List Triple → Type 0
Withdraws es c T N =
    ((u : Triple) → lookup (lower_all (carried_all c.explicit.statements N) c.kept) u ≤ length (remove_all N c.explicit.facts))
    → (y : Tally) → Withdrawn es c T N y

-- No entry.
withdraws_none : {c : Contents} {T : Tables} → Fitting c T → Withdraws [] c T []
unfolding run_entries
withdraws_none {c} {T} X h y = record { ran = rw (without_facts_none c, tally_none y) refl; fits = rw (without_facts_none c) X }

module _ {c : Contents} {T : Tables} (X : Fitting c T) (H : Worded T) (t : Triple) (s : is_statement t ≡ false) (es N : List Triple) where
  -- The first entry is no triple,
  withdraws_refused : is_triple t ≡ false → Withdraws es c T N → Withdraws (t ∷ es) c T N
  withdraws_refused e B h y =
      let r = B h (tallied (Refused 2) y) in
      record {
        ran = run_first (update Withdrawal) t es (Refused 2) y (held_refused Withdrawal X H t s e) ∙ r.ran ∙ ap (progress (put (without_facts N c) T)) (tally_refused 2 (length N) t es y e);
        fits = r.fits;
      }

  -- it is not there,
  withdraws_idle : is_triple t ≡ true → ¬ Memᴰ t c.explicit.facts → length N ≤ length (passing es) → Withdraws es c T N → Withdraws (t ∷ es) c T N
  withdraws_idle e n l B h y =
      let r = B h (tallied Idle y) in
      record {
        ran = run_first (update Withdrawal) t es Idle y (held_idle Withdrawal X H t s e (lacked_idle t c.explicit s n)) ∙ r.ran ∙ ap (progress (put (without_facts N c) T)) (tally_idle (length N) t es y e l);
        fits = r.fits;
      }

  -- or it goes.
  withdraws_known : is_triple t ≡ true → Memᴰ t c.explicit.facts → ¬ Memᴰ t N → length (remove t c.explicit.facts) ≡ length (remove_all N (remove t c.explicit.facts)) + length N
      → (Fitting (contents_after Withdrawal t c) T → Withdraws es (contents_after Withdrawal t c) T N) → Withdraws (t ∷ es) c T (insert t N)
  unfolding is_admitted
  withdraws_known e m o left B h y =
      let S : List Triple = c.explicit.statements in
      let F : List Triple = c.explicit.facts in
      let c' : Contents = contents_after Withdrawal t c in
      let a : Counts c.kept = fitting_counts X in
      let a' : Counts (lower_all (carried S t) c.kept) = lower_all_counts (carried S t) c.kept a in
      let is = fact_withdrawn t c s in
      let more : length (insert t N) ≡ suc (length N) = insert_new-length t N o in
      let h' : (u : Triple) → lookup (lower_all (carried_all S N) (lower_all (carried S t) c.kept)) u ≤ length (remove_all N (remove t F)) =
      λ u. rw (← lower_all-carried S t N c.kept a o, ← remove_all-insert t N F X.sets.facts_ascend) (h u) in
      let within : (n : ℕ) → Memᴰ n (kept_supports (lower_all (carried S t) c.kept)) → n ≤ length (remove t F) =
      λ n i. let r = support_of (lower_all (carried S t) c.kept) n a' i in
      omega (arith, r.supported, left, support_before S N (lower_all (carried S t) c.kept) r.row (length (remove_all N (remove t F))) a' (h' r.row)) in
      let changes = known_changes t c.explicit s m in
      let few : length c'.kept ≤ (capacities_of T).kept = rw is (let k = X.kept_fit in omega (arith, lower_all-length (carried S t) c.kept)) in
      let X' : Fitting c' T = fact-leaves X t (fact_passes t e s) s changes (rw is within) in
      let r = B X' (rw is h') (tallied Applied y) in
      let same : without_facts (insert t N) c ≡ without_facts N c' = without_facts-insert t N c s X.sets.facts_ascend a o in
      record {
        ran = run_first (update Withdrawal) t es Applied y (held_applied Withdrawal X H t s e changes refl few) ∙ r.ran
            ∙ rw (same, more) (ap (progress (put (without_facts N c') T)) (tally_applied (length N) t es y e));
        fits = rw same r.fits;
      }

-- The facts that entries take: the first is no triple,
going_refused : (F : List Triple) (t : Triple) (es : List Triple) → is_triple t ≡ false → going F (t ∷ es) ≡ going F es
unfolding select
going_refused F t es e = rw e

-- or it is one.
going-triple : (F : List Triple) (t : Triple) (es : List Triple) → is_triple t ≡ true → going F (t ∷ es) ≡ present F (t ∷ passing es)
unfolding select
going-triple F t es e = rw e

-- All entries.
withdraws-all : (es : List Triple) {c : Contents} {T : Tables} → Fitting c T → Worded T → all is_fact es ≡ true → Withdraws es c T (going c.explicit.facts es)
unfolding all select
withdraws-all [] {c} X H f = rw (present_nil c.explicit.facts) (withdraws_none X)
withdraws-all (t ∷ es) {c} {T} X H f =
    let F : List Triple = c.explicit.facts in
    let a = X.sets.facts_ascend in
    let s : is_statement t ≡ false = not-true (is_statement t) (and_left (is_fact t) _ f) in
    let g = and_right (is_fact t) _ f in
    by_test (is_triple t)
    (λ e. ⊎_elim
    (λ m. subst (Withdraws (t ∷ es) c T) (sym (going-triple F t es e ∙ present_first F t (passing es) a m))
    (withdraws_known X H t s es (present (remove t F) (passing es)) e m (present_gone F t (passing es) a) (remove_all-present (passing es) (remove t F) (remove_asc t F a)) (λ X'.
    let is : (contents_after Withdrawal t c).explicit.facts ≡ remove t F = ap (λ (d : Contents). d.explicit.facts) (fact_withdrawn t c s) in
    subst (λ (G : List Triple). Withdraws es (contents_after Withdrawal t c) T (going G es)) is (withdraws-all es X' H g))))
    (λ n. subst (Withdraws (t ∷ es) c T) (sym (going-triple F t es e ∙ present_lacked F t (passing es) n)) (withdraws_idle X H t s es (going F es) e n (present_few F (passing es)) (withdraws-all es X H g)))
    (member_or t F))
    (λ e. subst (Withdraws (t ∷ es) c T) (sym (going_refused F t es e)) (withdraws_refused X H t s es (going F es) e (withdraws-all es X H g)))

-- ---- a section of facts over a well-formed store

-- No support is above the number of facts left: by the supports, and so of each row.
abbrev pub Unspoilt : Tables → List Triple → Type 0
Unspoilt T N =
    (n : ℕ) → Memᴰ n (kept_supports (lower_all (carried_all (contents_of T).explicit.statements N) (contents_of T).kept))
    → n ≤ length (remove_all N (contents_of T).explicit.facts)

pub unspoilt-rows : (T : Tables) (N : List Triple) → Unspoilt T N → (u : Triple) → lookup (lower_all (carried_all (contents_of T).explicit.statements N) (contents_of T).kept) u ≤ length (remove_all N (contents_of T).explicit.facts)
unspoilt-rows T N h u = lookup-bound (lower_all (carried_all (contents_of T).explicit.statements N) (contents_of T).kept) (length (remove_all N (contents_of T).explicit.facts)) h u

-- So it is where the last store is well formed.
pub formed_unspoilt : (T : Tables) (N : List Triple) → are_formed (put (without_facts N (contents_of T)) T) ≡ true → Unspoilt T N
unfolding without_facts
formed_unspoilt T N e n m =
    let c : Contents = without_facts N (contents_of T) in
    let X : Fitting c (put c T) = subst (λ (d : Contents). Fitting d (put c T)) (contents_of-put c T) (formed_fitting (put c T) e) in
    (X.supports_between n m).1

-- Over any well-formed store the entries come to what they take, taken together, where the last store is not spoilt,
pub facts_withdrawn_lem : (T : Tables) (es : List Triple) → are_formed T ≡ true → all is_fact es ≡ true
    → Unspoilt T (going (contents_of T).explicit.facts es)
    → (y : Tally)
    → run_entries (update Withdrawal) es (progress T y)
    ≡ progress (put (without_facts (going (contents_of T).explicit.facts es) (contents_of T)) T) (tally_after (length (going (contents_of T).explicit.facts es)) es y)
facts_withdrawn_lem T es e f h y =
    ap (λ (U : Tables). run_entries (update Withdrawal) es (progress U y)) (sym (put_held T e))
    ∙ (withdraws-all es (formed_fitting T e) (formed_worded T e) f (unspoilt-rows T (going (contents_of T).explicit.facts es) h) y).ran

-- which leaves it well formed.
pub facts_withdrawn_formed : (T : Tables) (es : List Triple) → are_formed T ≡ true → all is_fact es ≡ true
    → Unspoilt T (going (contents_of T).explicit.facts es)
    → are_formed (put (without_facts (going (contents_of T).explicit.facts es) (contents_of T)) T) ≡ true
facts_withdrawn_formed T es e f h =
    put_formed (withdraws-all es (formed_fitting T e) (formed_worded T e) f (unspoilt-rows T (going (contents_of T).explicit.facts es) h) (tally 0 0 0)).fits (formed_worded T e)

-- A bound of the supports of a well-formed store is one of those left, whatever is lowered.
pub formed-lowered : {S F K U : List ℕ} → FormedStore S F K U → (ts : List Triple) (b : ℕ) → ((m : ℕ) → Memᴰ m (take (count K) U) → m ≤ b) → (m : ℕ) → Memᴰ m (kept_supports (lower_all ts (kept_of K U))) → m ≤ b
unfolding contents_of
formed-lowered {S} {F} {K} {U} W ts b h =
    let a : Counts (kept_of K U) = fitting_counts (formed_fitting (tables S F K U) (formed_is_store W)) in
    lowered-within ts (kept_of K U) b a (rw (supports_are W) h)

-- So many facts are left.
pub facts_left : {S F K U : List ℕ} → FormedStore S F K U → (es N : List Triple) → N ≡ going (rows F) es → count F ≡ length (remove_all N (rows F)) + length N
facts_left {F = F} W es N n = rw (n, ← length-rows F) (remove_all-present (passing es) (rows F) W.facts.ascends)

-- The same by the words of the tables: N the facts that go, k the kept facts once all that N carried is lowered.
module _ {S F K U : List ℕ} (W : FormedStore S F K U) (es N : List Triple) (k : Kept) (f : all is_fact es ≡ true) (n : N ≡ going (rows F) es) (r : k ≡ lower_all (carried_all (rows S) N) (kept_of K U))
    (h : (m : ℕ) → Memᴰ m (kept_supports k) → m + length N ≤ count F) where
  unspoilt : (m : ℕ) → Memᴰ m (kept_supports (lower_all (carried_all (rows S) (going (rows F) es)) (kept_of K U))) → m ≤ length (remove_all (going (rows F) es) (rows F))
  unspoilt = rw (← n, ← r) (λ m i. omega (arith, h m i, facts_left W es N n))

  -- The words that hold both,
  words_are : tables S (layout (length F) (remove_all N (rows F))) (layout (length K) (kept_rows k)) (padded (length U) (kept_supports k)) ≡ put (without_facts (going (rows F) es) (contents_of (tables S F K U))) (tables S F K U)
  unfolding put without_facts contents_of
  words_are = rw (← n, ← r, ← W.statements.laid.is_layout) refl

  -- with the tallies, are what the entries run one by one leave,
  pub words_withdrawn : (y : Tally) → progress (tables S (layout (length F) (remove_all N (rows F))) (layout (length K) (kept_rows k)) (padded (length U) (kept_supports k))) (tally_after (length N) es y) ≡ run_entries (update Withdrawal) es (progress (tables S F K U) y)
  unfolding contents_of
  words_withdrawn y = rw (words_are, n) (sym (facts_withdrawn_lem (tables S F K U) es (formed_is_store W) f unspoilt y))

  -- and are well formed.
  pub words_left_formed : FormedStore S (layout (length F) (remove_all N (rows F))) (layout (length K) (kept_rows k)) (padded (length U) (kept_supports k))
  unfolding contents_of
  words_left_formed =
      is_store_formed S (layout (length F) (remove_all N (rows F))) (layout (length K) (kept_rows k)) (padded (length U) (kept_supports k))
      (rw words_are (facts_withdrawn_formed (tables S F K U) es (formed_is_store W) f unspoilt))
