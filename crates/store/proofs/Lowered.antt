-- The withdrawal of a fact can spoil a well-formed store in one way only: a support above the number of facts left. Assumes nothing.
use Prim.Native.Nat.{ℕ, ◌≤◌}
use mathlib.Core.Path.{◌≡◌, sym, ◌∙◌}
use mathlib.Core.Bool.{Bool, true, false}
use mathlib.Core.List.{List, Memᴰ}
use native.Mathlib.Omega.{arith}
use lib.ListN.{length, take}
use lib.Dec.{leb}
use borrow.Author.Tests.{leb-true, le-leb}
use Rattle.spec.specs.declared.Triple.{Triple}
use Rattle.spec.specs.Terms.{is_statement}
use Rattle.spec.proofs.Lists.{true-not_false, by_test}
use Rattle.spec.specs.Tables.{count, is_support, Tables, are_formed, Contents, contents_of, put}
use Rattle.spec.specs.Lists.{all}
use Rattle.spec.proofs.TableRows.{count-layout}
use Rattle.spec.proofs.TableAll.{all-member, member-all}
use Rattle.table.proofs.Supports.{length-padded, take-padded, is_support-between}
use Rattle.table.proofs.Store.{is_store_formed}
use Rattle.spec.specs.Saturation.{kept_supports}
use Rattle.spec.specs.computed.Carried.{carried}
use Rattle.spec.proofs.Carried.{carried_ascends}
use Rattle.spec.proofs.Kept.{length-kept_rows}
use Rattle.spec.proofs.Saturation.{lower_all-length}
use Rattle.spec.specs.declared.Answer.{Answer}
use Rattle.spec.specs.declared.Change.TheVariants.{Withdrawal}
use Rattle.spec.specs.Updates.{is_change, kept_after, contents_after, withdraw}
use Rattle.store.proofs.Fitting.{Fitting, put_formed, supports_are, length_supports_of, formed_fitting, formed_worded}
use Rattle.store.proofs.Applied.{lowered_supports, fitting_counts, fact-leaves}
use Rattle.store.proofs.Laws.{update_elim, Asked, asked}

-- The supports of the kept facts.
abbrev pub supports_of : Tables → List ℕ
supports_of T = take (count T.kept) T.supports

-- Whether none of them is above a number.
abbrev pub are_supports_within : ℕ → Tables → Bool
are_supports_within b T = all (λ (u : ℕ). leb u b) (supports_of T)

-- The same, of each.
within_each : (b : ℕ) (us : List ℕ) → all (λ (u : ℕ). leb u b) us ≡ true → (n : ℕ) → Memᴰ n us → n ≤ b
within_each b us e n m = leb-true n b (all-member (λ (u : ℕ). leb u b) us e m)

each_within : (b : ℕ) (us : List ℕ) → ((n : ℕ) → Memᴰ n us → n ≤ b) → all (λ (u : ℕ). leb u b) us ≡ true
each_within b us h = member-all (λ (u : ℕ). leb u b) us (λ n m. le-leb n b (h n m))

-- ---- well-formed tables

-- No support is above the number of facts,
pub formed-within : (T : Tables) → are_formed T ≡ true → are_supports_within (count T.facts) T ≡ true
formed-within T e =
    let W = is_store_formed T.statements T.facts T.kept T.supports e in
    each_within (count T.facts) (supports_of T) (λ n m. (is_support-between (count T.facts) n (all-member (is_support (count T.facts)) (supports_of T) W.supports.each_support m)).1)

-- and each kept fact has a place for its own.
formed_places : (T : Tables) → are_formed T ≡ true → count T.kept ≤ length T.supports
formed_places T e = (is_store_formed T.statements T.facts T.kept T.supports e).supports.within

-- ---- contents put into tables

-- The supports are those of the contents,
put_supports : (c : Contents) (T : Tables) → supports_of (put c T) ≡ kept_supports c.kept
unfolding put
put_supports c T = rw (count-layout, length-kept_rows) (take-padded (length T.supports) (length c.kept) (kept_supports c.kept) (length_supports_of c.kept))

-- so is the number of facts,
put_facts : (c : Contents) (T : Tables) → count (put c T).facts ≡ length c.explicit.facts
unfolding put
put_facts c T = count-layout (length T.facts) c.explicit.facts

-- and there is a place for each kept fact where there is room.
put_places : (c : Contents) (T : Tables) → length c.kept ≤ length T.supports → count (put c T).kept ≤ length (put c T).supports
unfolding put
put_places c T h = rw (count-layout, length-kept_rows, length-padded (length T.supports) (kept_supports c.kept) (rw (length_supports_of c.kept) h)) h

-- ---- the contents left

-- No support is above a bound of all.
left-within : {c : Contents} {T : Tables} → Fitting c T → (t : Triple) → is_statement t ≡ false → (b : ℕ) → ((n : ℕ) → Memᴰ n (kept_supports c.kept) → n ≤ b) → (n : ℕ) → Memᴰ n (kept_supports (contents_after Withdrawal t c).kept) → n ≤ b
unfolding contents_after kept_after
left-within {c} X t s b h = rw s (lowered_supports (carried c.explicit.statements t) c.kept b (carried_ascends c.explicit.statements t) (fitting_counts X) h)

-- There are no more of them.
left_few : {c : Contents} {T : Tables} → Fitting c T → (t : Triple) → is_statement t ≡ false → length (contents_after Withdrawal t c).kept ≤ length T.supports
unfolding contents_after kept_after
left_few {c} X t s = rw s (let k = X.kept_fit in omega (arith, lower_all-length (carried c.explicit.statements t) c.kept))

-- Put into the tables they are well formed exactly if no support is above the number of facts left.
left_formed : (T : Tables) (t : Triple) → are_formed T ≡ true → is_statement t ≡ false → Asked Withdrawal t T → is_change Withdrawal t (contents_of T).explicit ≡ true
    → are_formed (put (contents_after Withdrawal t (contents_of T)) T) ≡ are_supports_within (count (put (contents_after Withdrawal t (contents_of T)) T).facts) (put (contents_after Withdrawal t (contents_of T)) T)
left_formed T t e s A b =
    let c : Contents = contents_after Withdrawal t (contents_of T) in
    let T' : Tables = put c T in
    by_test (are_supports_within (count T'.facts) T')
    (λ w. put_formed (fact-leaves (formed_fitting T e) t A.passed s b (λ n m. within_each (length c.explicit.facts) (kept_supports c.kept) (rw (put_facts c T, put_supports c T) at w) n m)) (formed_worded T e) ∙ sym w)
    (λ w. by_test (are_formed T') (λ f. absurd (true-not_false (sym (formed-within T' f) ∙ w))) (λ f. f ∙ sym w))

-- ---- the withdrawal of a fact from a well-formed store

module _ (T : Tables) (t : Triple) (s : is_statement t ≡ false) (e : are_formed T ≡ true) where
  -- The store is well formed after it exactly if no support is above the number of facts.
  pub withdraw_fact_formed : are_formed (withdraw T t).1 ≡ are_supports_within (count (withdraw T t).1.facts) (withdraw T t).1
  withdraw_fact_formed =
      update_elim (λ (o : Answer × Tables). are_formed o.1 ≡ are_supports_within (count o.1.facts) o.1) Withdrawal T t
      (λ _ _. e ∙ sym (formed-within T e)) (λ q b. left_formed T t e s (asked Withdrawal t T q b) b) (λ _ _. e ∙ sym (formed-within T e))

  -- What was a bound of the supports still is one.
  pub withdraw_fact-within : (b : ℕ) → are_supports_within b T ≡ true → are_supports_within b (withdraw T t).1 ≡ true
  unfolding contents_of
  withdraw_fact-within b h =
      let W = is_store_formed T.statements T.facts T.kept T.supports e in
      let c : Contents = contents_after Withdrawal t (contents_of T) in
      let before : (n : ℕ) → Memᴰ n (kept_supports (contents_of T).kept) → n ≤ b = within_each b (kept_supports (contents_of T).kept) (rw (supports_are W) h) in
      update_elim (λ (o : Answer × Tables). are_supports_within b o.1 ≡ true) Withdrawal T t
      (λ _ _. h) (λ _ _. rw (put_supports c T) (each_within b (kept_supports c.kept) (left-within (formed_fitting T e) t s b before))) (λ _ _. h)

  -- Each kept fact has a place for its support.
  pub withdraw_fact_places : count (withdraw T t).1.kept ≤ length (withdraw T t).1.supports
  withdraw_fact_places =
      update_elim (λ (o : Answer × Tables). count o.1.kept ≤ length o.1.supports) Withdrawal T t
      (λ _ _. formed_places T e) (λ _ _. put_places (contents_after Withdrawal t (contents_of T)) T (left_few (formed_fitting T e) t s)) (λ _ _. formed_places T e)
