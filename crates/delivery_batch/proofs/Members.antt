-- Rows put into a set or taken out of it together, and those among them that it lacks or has. Assumes nothing.
use Prim.Native.Nat.{suc, ◌+◌, ◌≤◌}
use mathlib.Core.Path.{◌≡◌, refl, sym, ap, ◌∙◌}
use mathlib.Core.Bool.{Bool, true, not}
use mathlib.Core.Logic.{◌⊎◌, inl, inr, ⊎_elim, ◌↔◌, by_cases}
use mathlib.Core.List.Memᴰ
use mathlib.Core.List.{List, [], ◌∷◌, Memᴰ}
use native.Mathlib.Omega.{arith}
use lib.ListN.{length}
use borrow.Author.Tests.{not-true}
use Rattle.spec.specs.declared.Triple.{Triple}
use Rattle.spec.specs.Lists.{select}
use Rattle.spec.specs.Order.{is_in, insert, remove}
use Rattle.spec.specs.computed.Carried.{ascend}
use Rattle.spec.specs.inside.Comparison.{Ascending, equal_triples}
use Rattle.spec.proofs.Lists.{true-not_false, by_test, select_in, select_out, select-length}
use Rattle.spec.proofs.Tests.{is_in_iff, is_in_no, same_elim}
use Rattle.spec.proofs.Ascending.{insert_asc, insert_old, insert_new, insert_cases, insert-length, remove_asc, remove_sub, remove_keeps, remove_gone, select_asc, ascend_asc, ascend_in, ascend_out, ascending_ext}
use Rattle.update_raise.proofs.Missing.{insert_new-length}
use Rattle.delivery_batch.specs.inside.Batches.{missing, present, insert_all, remove_all}

-- ---- one row

-- What is there already is not put in again.
pub insert_known : (t : Triple) (F : List Triple) → Ascending F → Memᴰ t F → insert t F ≡ F
insert_known t F a m =
    ascending_ext (insert t F) F (insert_asc t F a) a (λ u. (λ i. ⊎_elim (λ (e : u ≡ t). Memᴰ.cast e m) (λ j. j) (insert_cases t F i), insert_old t F))

-- What is there and goes leaves one row fewer.
pub remove-length_in : (t : Triple) (F : List Triple) → Memᴰ t F → length F ≡ suc (length (remove t F))
unfolding remove
remove-length_in t [] m = absurd (Memᴰ.not-nil m)
remove-length_in t (u ∷ F) m =
    same_elim (λ (r : List Triple). suc (length F) ≡ suc (length r)) t u (λ _. refl)
    (λ n. omega (arith, remove-length_in t F (⊎_elim (λ e. absurd (n e)) (λ j. j) (Memᴰ.cases_cons m))))

-- A set has a row or lacks it.
pub member_or : (t : Triple) (F : List Triple) → Memᴰ t F ⊎ (¬ Memᴰ t F)
member_or t F = by_test (is_in t F) (λ e. inl ((is_in_iff t F).0 e)) (λ e. inr (λ m. true-not_false (sym ((is_in_iff t F).1 m) ∙ e)))

-- ---- those that pass a test, ascending

pub ascend-length : (ts : List Triple) → length (ascend ts) ≤ length ts
unfolding ascend
ascend-length [] = omega arith
ascend-length (t ∷ ts) = omega (arith, ascend-length ts, insert-length t (ascend ts))

-- Whether rows are put in order before they are tested or after it is the same.
pub select-ascend : (test : Triple → Bool) (ts : List Triple) → select test (ascend ts) ≡ ascend (select test ts)
select-ascend test ts =
    ascending_ext (select test (ascend ts)) (ascend (select test ts)) (select_asc test (ascend ts) (ascend_asc ts)) (ascend_asc (select test ts)) (λ u. (
      λ m. let r = select_out test (ascend ts) m in ascend_in (select test ts) (select_in test ts (ascend_out ts r.0) r.1),
      λ m. let r = select_out test ts (ascend_out (select test ts) m) in select_in test (ascend ts) (ascend_in ts r.0) r.1,
    ))

-- ---- rows that a set lacks

lacks : (t : Triple) (F : List Triple) → not (is_in t F) ≡ true → ¬ Memᴰ t F
lacks t F e m = true-not_false (sym ((is_in_iff t F).1 m) ∙ not-true (is_in t F) e)

pub missing_asc : (F ts : List Triple) → Ascending (missing F ts)
unfolding missing
missing_asc F ts = ascend_asc _

pub missing_iff : (F ts : List Triple) (u : Triple) → Memᴰ u (missing F ts) ↔ (Memᴰ u ts × (¬ Memᴰ u F))
unfolding missing
missing_iff F ts u = (
  λ m. let r = select_out (λ t. not (is_in t F)) ts (ascend_out (select (λ t. not (is_in t F)) ts) m) in (r.0, lacks u F r.1),
  λ h. ascend_in (select (λ t. not (is_in t F)) ts) (select_in (λ t. not (is_in t F)) ts h.0 (ap not (is_in_no u F h.1))),
)

-- They can be sought once the rows are in order.
pub missing_sorted : (F ts : List Triple) → missing F ts ≡ select (λ t. not (is_in t F)) (ascend ts)
unfolding missing
missing_sorted F ts = sym (select-ascend (λ t. not (is_in t F)) ts)

-- They are no more than the rows.
pub missing_few : (F ts : List Triple) → length (missing F ts) ≤ length ts
unfolding missing
missing_few F ts = omega (arith, ascend-length (select (λ t. not (is_in t F)) ts), select-length (λ t. not (is_in t F)) ts)

pub missing_nil : (F : List Triple) → missing F [] ≡ []
unfolding missing ascend select
missing_nil F = refl

-- A row that is there is not missing,
pub missing_known : (F : List Triple) (t : Triple) (ts : List Triple) → Memᴰ t F → missing F (t ∷ ts) ≡ missing F ts
unfolding missing select
missing_known F t ts m = rw ((is_in_iff t F).1 m)

-- one that is not is,
missing_lacked : (F : List Triple) (t : Triple) (ts : List Triple) → ¬ Memᴰ t F → missing F (t ∷ ts) ≡ insert t (missing F ts)
unfolding missing select ascend
missing_lacked F t ts n = rw (is_in_no t F n)

-- and no longer once it is put in: a repeated row is missing once.
pub missing_new : (F : List Triple) (t : Triple) (ts : List Triple) → ¬ Memᴰ t F → missing F (t ∷ ts) ≡ insert t (missing (insert t F) ts)
missing_new F t ts n =
    ascending_ext (missing F (t ∷ ts)) (insert t (missing (insert t F) ts)) (missing_asc F (t ∷ ts)) (insert_asc t (missing (insert t F) ts) (missing_asc (insert t F) ts)) (λ u. (
      λ m. let r = (missing_iff F (t ∷ ts) u).0 m in
          by_cases (equal_triples u t)
          (λ (e : u ≡ t). Memᴰ.cast e (insert_new t (missing (insert t F) ts)))
          (λ d. insert_old t (missing (insert t F) ts) ((missing_iff (insert t F) ts u).1 (
            ⊎_elim (λ e. absurd (d e)) (λ j. j) (Memᴰ.cases_cons r.0),
            λ i. ⊎_elim d r.1 (insert_cases t F i),
          ))),
      λ m. ⊎_elim
          (λ (e : u ≡ t). (missing_iff F (t ∷ ts) u).1 (Memᴰ.head e, λ i. n (Memᴰ.cast (sym e) i)))
          (λ j. let r = (missing_iff (insert t F) ts u).0 j in (missing_iff F (t ∷ ts) u).1 (Memᴰ.tail r.0, λ i. r.1 (insert_old t F i)))
          (insert_cases t (missing (insert t F) ts) m),
    ))

pub missing_gone : (F : List Triple) (t : Triple) (ts : List Triple) → ¬ Memᴰ t (missing (insert t F) ts)
missing_gone F t ts m = ((missing_iff (insert t F) ts t).0 m).1 (insert_new t F)

-- ---- rows put into a set

pub insert_all_asc : (ts F : List Triple) → Ascending F → Ascending (insert_all ts F)
unfolding insert_all
insert_all_asc [] F a = a
insert_all_asc (t ∷ ts) F a = insert_asc t (insert_all ts F) (insert_all_asc ts F a)

pub insert_all_iff : (ts F : List Triple) (u : Triple) → Memᴰ u (insert_all ts F) ↔ (Memᴰ u ts ⊎ Memᴰ u F)
unfolding insert_all
insert_all_iff [] F u = (inr, λ h. ⊎_elim (λ m. absurd (Memᴰ.not-nil m)) (λ m. m) h)
insert_all_iff (t ∷ ts) F u =
    let r = insert_all_iff ts F u in (
      λ m. ⊎_elim (λ e. inl (Memᴰ.head e)) (λ j. ⊎_elim (λ i. inl (Memᴰ.tail i)) inr (r.0 j)) (insert_cases t (insert_all ts F) m),
      λ h. ⊎_elim
          (λ m. ⊎_elim (λ (e : u ≡ t). Memᴰ.cast e (insert_new t (insert_all ts F))) (λ j. insert_old t (insert_all ts F) (r.1 (inl j))) (Memᴰ.cases_cons m))
          (λ m. insert_old t (insert_all ts F) (r.1 (inr m)))
          h,
    )

-- Lists with the same members give the same set.
pub insert_all_same : (ts us F : List Triple) → Ascending F → ((u : Triple) → Memᴰ u ts ↔ Memᴰ u us) → insert_all ts F ≡ insert_all us F
insert_all_same ts us F a h =
    ascending_ext (insert_all ts F) (insert_all us F) (insert_all_asc ts F a) (insert_all_asc us F a) (λ u. (
      λ m. (insert_all_iff us F u).1 (⊎_elim (λ i. inl ((h u).0 i)) inr ((insert_all_iff ts F u).0 m)),
      λ m. (insert_all_iff ts F u).1 (⊎_elim (λ i. inl ((h u).1 i)) inr ((insert_all_iff us F u).0 m)),
    ))

-- The first row can be put in first.
pub insert_all-insert : (t : Triple) (ts F : List Triple) → Ascending F → insert_all (insert t ts) F ≡ insert_all ts (insert t F)
insert_all-insert t ts F a =
    ascending_ext (insert_all (insert t ts) F) (insert_all ts (insert t F)) (insert_all_asc (insert t ts) F a) (insert_all_asc ts (insert t F) (insert_asc t F a)) (λ u. (
      λ m. (insert_all_iff ts (insert t F) u).1 (⊎_elim
          (λ i. ⊎_elim (λ (e : u ≡ t). inr (Memᴰ.cast e (insert_new t F))) inl (insert_cases t ts i))
          (λ i. inr (insert_old t F i)) ((insert_all_iff (insert t ts) F u).0 m)),
      λ m. (insert_all_iff (insert t ts) F u).1 (⊎_elim
          (λ i. inl (insert_old t ts i))
          (λ i. ⊎_elim (λ (e : u ≡ t). inl (Memᴰ.cast e (insert_new t ts))) inr (insert_cases t F i)) ((insert_all_iff ts (insert t F) u).0 m)),
    ))

-- One that is there changes nothing,
insert_all_known : (t : Triple) (ts F : List Triple) → Ascending F → Memᴰ t ts ⊎ Memᴰ t F → length (insert t (insert_all ts F)) ≡ length (insert_all ts F)
insert_all_known t ts F a h = ap length (insert_known t (insert_all ts F) (insert_all_asc ts F a) ((insert_all_iff ts F t).1 h))

-- and one that is neither there nor among the others is one more.
insert_all_new : (t : Triple) (ts F : List Triple) → ¬ Memᴰ t ts → ¬ Memᴰ t F → length (insert t (insert_all ts F)) ≡ suc (length (insert_all ts F))
insert_all_new t ts F n o = insert_new-length t (insert_all ts F) (λ m. ⊎_elim n o ((insert_all_iff ts F t).0 m))

-- A set grows by the rows that it lacks, each once.
pub insert_all-length : (ts F : List Triple) → Ascending F → length (insert_all ts F) ≡ length F + length (missing F ts)
unfolding insert_all
insert_all-length [] F a = rw (missing_nil F) (omega arith)
insert_all-length (t ∷ ts) F a =
    let h = insert_all-length ts F a in
    ⊎_elim
    (λ m. rw (missing_known F t ts m) (omega (arith, insert_all_known t ts F a (inr m))))
    (λ n. rw (missing_lacked F t ts n) (⊎_elim
    (λ m. rw (insert_known t (missing F ts) (missing_asc F ts) m) (omega (arith, insert_all_known t ts F a (inl ((missing_iff F ts t).0 m).0))))
    (λ o. omega (arith, insert_new-length t (missing F ts) o, insert_all_new t ts F (λ m. o ((missing_iff F ts t).1 (m, n))) n))
    (member_or t (missing F ts))))
    (member_or t F)

-- ---- rows that a set has

pub present_asc : (F ts : List Triple) → Ascending (present F ts)
unfolding present
present_asc F ts = ascend_asc _

pub present_iff : (F ts : List Triple) (u : Triple) → Memᴰ u (present F ts) ↔ (Memᴰ u ts × Memᴰ u F)
unfolding present
present_iff F ts u = (
  λ m. let r = select_out (λ t. is_in t F) ts (ascend_out (select (λ t. is_in t F) ts) m) in (r.0, (is_in_iff u F).0 r.1),
  λ h. ascend_in (select (λ t. is_in t F) ts) (select_in (λ t. is_in t F) ts h.0 ((is_in_iff u F).1 h.1)),
)

-- They can be sought once the rows are in order.
pub present_sorted : (F ts : List Triple) → present F ts ≡ select (λ t. is_in t F) (ascend ts)
unfolding present
present_sorted F ts = sym (select-ascend (λ t. is_in t F) ts)

-- They are no more than the rows.
pub present_few : (F ts : List Triple) → length (present F ts) ≤ length ts
unfolding present
present_few F ts = omega (arith, ascend-length (select (λ t. is_in t F) ts), select-length (λ t. is_in t F) ts)

pub present_nil : (F : List Triple) → present F [] ≡ []
unfolding present ascend select
present_nil F = refl

-- The set has them all.
present_again : (F ts : List Triple) → present F (present F ts) ≡ present F ts
present_again F ts =
    ascending_ext (present F (present F ts)) (present F ts) (present_asc F (present F ts)) (present_asc F ts) (λ u. (
      λ m. ((present_iff F (present F ts) u).0 m).0,
      λ m. (present_iff F (present F ts) u).1 (m, ((present_iff F ts u).0 m).1),
    ))

-- A row that is not there is not present,
pub present_lacked : (F : List Triple) (t : Triple) (ts : List Triple) → ¬ Memᴰ t F → present F (t ∷ ts) ≡ present F ts
unfolding present select
present_lacked F t ts n = rw (is_in_no t F n)

-- one that is there is,
present_known : (F : List Triple) (t : Triple) (ts : List Triple) → Memᴰ t F → present F (t ∷ ts) ≡ insert t (present F ts)
unfolding present select ascend
present_known F t ts m = rw ((is_in_iff t F).1 m)

-- and no longer once it is taken out: a repeated row is present once.
pub present_first : (F : List Triple) (t : Triple) (ts : List Triple) → Ascending F → Memᴰ t F → present F (t ∷ ts) ≡ insert t (present (remove t F) ts)
present_first F t ts a m =
    ascending_ext (present F (t ∷ ts)) (insert t (present (remove t F) ts)) (present_asc F (t ∷ ts)) (insert_asc t (present (remove t F) ts) (present_asc (remove t F) ts)) (λ u. (
      λ i. let r = (present_iff F (t ∷ ts) u).0 i in
          by_cases (equal_triples u t)
          (λ (e : u ≡ t). Memᴰ.cast e (insert_new t (present (remove t F) ts)))
          (λ d. insert_old t (present (remove t F) ts) ((present_iff (remove t F) ts u).1 (
            ⊎_elim (λ e. absurd (d e)) (λ j. j) (Memᴰ.cases_cons r.0),
            remove_keeps t F d r.1,
          ))),
      λ i. ⊎_elim
          (λ (e : u ≡ t). (present_iff F (t ∷ ts) u).1 (Memᴰ.head e, Memᴰ.cast e m))
          (λ j. let r = (present_iff (remove t F) ts u).0 j in (present_iff F (t ∷ ts) u).1 (Memᴰ.tail r.0, remove_sub t F r.1))
          (insert_cases t (present (remove t F) ts) i),
    ))

pub present_gone : (F : List Triple) (t : Triple) (ts : List Triple) → Ascending F → ¬ Memᴰ t (present (remove t F) ts)
present_gone F t ts a m = remove_gone t F a ((present_iff (remove t F) ts t).0 m).1

-- ---- rows taken out of a set

pub remove_all_asc : (ts F : List Triple) → Ascending F → Ascending (remove_all ts F)
unfolding remove_all
remove_all_asc [] F a = a
remove_all_asc (t ∷ ts) F a = remove_asc t (remove_all ts F) (remove_all_asc ts F a)

pub remove_all_iff : (ts F : List Triple) → Ascending F → (u : Triple) → Memᴰ u (remove_all ts F) ↔ (Memᴰ u F × (¬ Memᴰ u ts))
unfolding remove_all
remove_all_iff [] F a u = (λ m. (m, Memᴰ.not-nil), λ h. h.0)
remove_all_iff (t ∷ ts) F a u =
    let r = remove_all_iff ts F a u in (
      λ m. let i = r.0 (remove_sub t (remove_all ts F) m) in
          (i.0, λ j. ⊎_elim (λ (e : u ≡ t). remove_gone t (remove_all ts F) (remove_all_asc ts F a) (Memᴰ.cast (sym e) m)) i.1 (Memᴰ.cases_cons j)),
      λ h. remove_keeps t (remove_all ts F) (λ e. h.1 (Memᴰ.head e)) (r.1 (h.0, λ j. h.1 (Memᴰ.tail j))),
    )

-- Lists with the same members leave the same set.
pub remove_all_same : (ts us F : List Triple) → Ascending F → ((u : Triple) → Memᴰ u ts ↔ Memᴰ u us) → remove_all ts F ≡ remove_all us F
remove_all_same ts us F a h =
    ascending_ext (remove_all ts F) (remove_all us F) (remove_all_asc ts F a) (remove_all_asc us F a) (λ u. (
      λ m. let r = (remove_all_iff ts F a u).0 m in (remove_all_iff us F a u).1 (r.0, λ j. r.1 ((h u).1 j)),
      λ m. let r = (remove_all_iff us F a u).0 m in (remove_all_iff ts F a u).1 (r.0, λ j. r.1 ((h u).0 j)),
    ))

-- The first row can be taken out first.
pub remove_all-insert : (t : Triple) (ts F : List Triple) → Ascending F → remove_all (insert t ts) F ≡ remove_all ts (remove t F)
remove_all-insert t ts F a =
    ascending_ext (remove_all (insert t ts) F) (remove_all ts (remove t F)) (remove_all_asc (insert t ts) F a) (remove_all_asc ts (remove t F) (remove_asc t F a)) (λ u. (
      λ m. let r = (remove_all_iff (insert t ts) F a u).0 m in
          (remove_all_iff ts (remove t F) (remove_asc t F a) u).1 (remove_keeps t F (λ (e : u ≡ t). r.1 (Memᴰ.cast e (insert_new t ts))) r.0, λ j. r.1 (insert_old t ts j)),
      λ m. let r = (remove_all_iff ts (remove t F) (remove_asc t F a) u).0 m in
          (remove_all_iff (insert t ts) F a u).1 (remove_sub t F r.0, λ j. ⊎_elim (λ (e : u ≡ t). remove_gone t F a (Memᴰ.cast (sym e) r.0)) r.1 (insert_cases t ts j)),
    ))

-- One that is not there changes nothing,
remove_lacked : (t : Triple) (F : List Triple) → Ascending F → ¬ Memᴰ t F → remove t F ≡ F
remove_lacked t F a n =
    ascending_ext (remove t F) F (remove_asc t F a) a (λ u. (remove_sub t F, λ m. remove_keeps t F (λ (e : u ≡ t). n (Memᴰ.cast (sym e) m)) m))

remove_all_lacked : (t : Triple) (ts F : List Triple) → Ascending F → ¬ Memᴰ t (remove_all ts F) → length (remove t (remove_all ts F)) ≡ length (remove_all ts F)
remove_all_lacked t ts F a n = ap length (remove_lacked t (remove_all ts F) (remove_all_asc ts F a) n)

-- and one that is there and not among the others is one fewer.
remove_all_known : (t : Triple) (ts F : List Triple) → Ascending F → Memᴰ t F → ¬ Memᴰ t ts → length (remove_all ts F) ≡ suc (length (remove t (remove_all ts F)))
remove_all_known t ts F a m n = remove-length_in t (remove_all ts F) ((remove_all_iff ts F a t).1 (m, n))

-- A set shrinks by the rows that it has, each once.
pub remove_all-length : (ts F : List Triple) → Ascending F → length F ≡ length (remove_all ts F) + length (present F ts)
unfolding remove_all
remove_all-length [] F a = rw (present_nil F) (omega arith)
remove_all-length (t ∷ ts) F a =
    let h = remove_all-length ts F a in
    ⊎_elim
    (λ m. rw (present_known F t ts m) (⊎_elim
    (λ i. rw (insert_known t (present F ts) (present_asc F ts) i) (omega (arith, remove_all_lacked t ts F a (λ j. ((remove_all_iff ts F a t).0 j).1 ((present_iff F ts t).0 i).0))))
    (λ o. omega (arith, insert_new-length t (present F ts) o, remove_all_known t ts F a m (λ j. o ((present_iff F ts t).1 (j, m)))))
    (member_or t (present F ts))))
    (λ n. rw (present_lacked F t ts n) (omega (arith, remove_all_lacked t ts F a (λ j. n ((remove_all_iff ts F a t).0 j).0))))
    (member_or t F)

pub remove_all-present : (ts F : List Triple) → Ascending F → length F ≡ length (remove_all (present F ts) F) + length (present F ts)
remove_all-present ts F a = rw (present_again F ts) at (remove_all-length (present F ts) F a)
