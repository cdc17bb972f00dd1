-- While facts go one by one, the facts left less the support of a row never rise, so that no store in between is spoilt where the last is not. Assumes
-- nothing.
use Prim.Native.Nat.{ℕ, ◌+◌, ◌≤◌}
use mathlib.Core.Path.{◌≡◌, sym, ap, ◌∙◌}
use mathlib.Core.Bool.{true, not}
use mathlib.Core.List.Memᴰ
use mathlib.Core.List.{List, [], ◌∷◌, ◌++◌, Memᴰ}
use native.Mathlib.Omega.{arith}
use lib.ListN.{length}
use Rattle.spec.specs.declared.Triple.{Triple}
use Rattle.spec.specs.Terms.{is_triple}
use Rattle.spec.specs.Lists.{all, select}
use Rattle.spec.specs.Order.{is_in}
use Rattle.spec.specs.Saturation.{Kept, lower_all}
use Rattle.spec.specs.computed.Carried.{carried}
use Rattle.spec.specs.inside.Comparison.{Ascending}
use Rattle.spec.specs.inside.Counts.{Counts, lookup}
use Rattle.spec.specs.inside.Pairs.{progress}
use Rattle.spec.specs.Tables.{Tables, are_formed, contents_of}
use Rattle.spec.specs.declared.Change.TheVariants.{Withdrawal}
use Rattle.spec.specs.declared.Tally.{Tally}
use Rattle.spec.specs.Updates.{update}
use Rattle.spec.specs.Deliveries.{is_fact, run_entries}
use Rattle.spec.proofs.Lists.{true-not_false, by_test, select_in, select_out}
use Rattle.spec.proofs.Tests.{is_in_iff}
use Rattle.spec.proofs.Ascending.{select_asc}
use Rattle.spec.proofs.Carried.{carried_ascends}
use Rattle.spec.proofs.Kept.{support_of}
use Rattle.spec.proofs.Saturation.{lower_all_counts}
use Rattle.spec.proofs.Sets.{ascending-distinct, distinct-length}
use Rattle.store.proofs.Fitting.{formed_fitting}
use Rattle.store.proofs.Applied.{fitting_counts}
use Rattle.delivery_batch.specs.inside.Batches.{times, carried_all, passing, going}
use Rattle.delivery_batch.proofs.Times.{times_absent, times-present, times_once, lower_all-times}
use Rattle.delivery_batch.proofs.Members.{present_asc, present_iff, remove_all-present}
use Rattle.delivery_batch.proofs.Carrying.{carried_all_nil, carried_all-cons}
use Rattle.delivery_batch.proofs.Withdrawn.{Unspoilt, unspoilt-rows, facts_withdrawn_lem, facts_withdrawn_formed}

-- The facts that do not carry a row.
abbrev others : List Triple → List Triple → Triple → List Triple
others S N u = select (λ f. not (is_in u (carried S f))) N

-- The others carry it once each.
others-length : (S N : List Triple) (u : Triple) → length N ≡ times u (carried_all S N) + length (others S N u)
unfolding select
others-length S [] u = omega (arith, carried_all_nil S u)
others-length S (t ∷ N) u =
    let h = others-length S N u in
    by_test (is_in u (carried S t))
    (λ e. rw e (omega (arith, carried_all-cons S t N u, times_once u (carried S t) (carried_ascends S t), times-present u (carried S t) ((is_in_iff u (carried S t)).0 e))))
    (λ e. rw e (omega (arith, carried_all-cons S t N u, times_absent u (carried S t) (λ m. true-not_false (sym ((is_in_iff u (carried S t)).1 m) ∙ e)))))

module _ (S M N : List Triple) (a : Ascending M) (h : (f : Triple) → Memᴰ f M → Memᴰ f N) (u : Triple) where
  -- More facts, more of them that do not carry the row,
  others_more : length (others S M u) ≤ length (others S N u)
  others_more =
      distinct-length (others S M u) (others S N u) (ascending-distinct (others S M u) (select_asc (λ f. not (is_in u (carried S f))) M a)) (λ f m.
      let r = select_out (λ g. not (is_in u (carried S g))) M m in
      select_in (λ g. not (is_in u (carried S g))) N (h f r.0) r.1)

  -- so that where a support is within the number of facts left once all of N have gone, it is so when some of them have.
  pub left_falls : (k : Kept) (facts : ℕ) → Counts k → lookup (lower_all (carried_all S N) k) u + length N ≤ facts → lookup (lower_all (carried_all S M) k) u + length M ≤ facts
  left_falls k facts c l =
      let few = distinct-length M N (ascending-distinct M a) h in
      omega (arith, l, few, others_more, others-length S M u, others-length S N u, lower_all-times (carried_all S N) k u c, lower_all-times (carried_all S M) k u c)

-- What the first entries take, all take.
going_part : (F es fs : List Triple) (u : Triple) → Memᴰ u (going F es) → Memᴰ u (going F (es ++ fs))
going_part F es fs u m =
    let r = (present_iff F (passing es) u).0 m in
    let i = select_out is_triple es r.0 in
    (present_iff F (passing (es ++ fs)) u).1 (select_in is_triple (es ++ fs) (Memᴰ.append_left fs i.0) i.1, r.1)

-- The store after the first entries is not spoilt where the last is not,
pub unspoilt_part : (T : Tables) (es fs : List Triple) → are_formed T ≡ true → Unspoilt T (going (contents_of T).explicit.facts (es ++ fs)) → Unspoilt T (going (contents_of T).explicit.facts es)
unspoilt_part T es fs e h n m =
    let S : List Triple = (contents_of T).explicit.statements in
    let F : List Triple = (contents_of T).explicit.facts in
    let k : Kept = (contents_of T).kept in
    let X = formed_fitting T e in
    let c : Counts k = fitting_counts X in
    let some : List Triple = going F es in
    let r = support_of (lower_all (carried_all S some) k) n (lower_all_counts (carried_all S some) k c) m in
    let whole = remove_all-present (passing (es ++ fs)) F X.sets.facts_ascend in
    let part = remove_all-present (passing es) F X.sets.facts_ascend in
    let last = unspoilt-rows T (going F (es ++ fs)) h r.row in
    omega (arith, r.supported, part, left_falls S some (going F (es ++ fs)) (present_asc F (passing es)) (going_part F es fs) r.row k (length F) c (omega (arith, whole, last)))

-- and so is well formed.
pub withdrawals-between : (T : Tables) (es fs : List Triple) → are_formed T ≡ true → all is_fact es ≡ true → Unspoilt T (going (contents_of T).explicit.facts (es ++ fs)) → (y : Tally)
    → are_formed (run_entries (update Withdrawal) es (progress T y)).0 ≡ true
withdrawals-between T es fs e f h y =
    let part = unspoilt_part T es fs e h in
    ap (λ (g : Tables × Tally). are_formed g.0) (facts_withdrawn_lem T es e f part y) ∙ facts_withdrawn_formed T es e f part
