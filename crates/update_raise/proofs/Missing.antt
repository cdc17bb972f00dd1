-- How many of some rows are missing among kept facts, and where the first of them stands. Assumes nothing.
use Prim.Native.Nat.{ℕ, suc, ◌+◌, ◌*◌, ◌≤◌, ◌<◌}
use mathlib.Core.Path.{◌≡◌, refl, sym, ap, ◌∙◌, subst}
use mathlib.Core.Logic.{◌⊎◌, inl, inr, ⊎_elim}
use mathlib.Core.List.{List, [], ◌∷◌, Memᴰ}
use native.Mathlib.Numerals.{add-one}
use native.Mathlib.Omega.{arith}
use lib.ListN.{length, take, drop, length-append, take-append-drop, drop_of_length-le}
use lib.Seq.{drop-cons}
use Rattle.spec.specs.declared.Triple.{Triple}
use Rattle.spec.specs.Terms.{triple}
use Rattle.spec.specs.Order.{is_less, is_same, insert}
use Rattle.spec.specs.inside.Comparison.{less_irrefl, Above, Ascending}
use Rattle.spec.proofs.Ascending.{above-member, insert_asc, insert_old, insert_cases}
use Rattle.std.specs.Prelude.{Result, Ok, Err}
use Rattle.spec.specs.Tables.{count, triple_from, first_rows, rows}
use Rattle.table_find.specs.inside.Search.{place}
use Rattle.table_change.specs.inside.Words.{insert_at}
use Rattle.spec.proofs.TableRows.{length-first_rows, length-rows, get_or-first_rows, first_rows-rows}
use Rattle.table_find.proofs.Place.{at_member, gap_absent, member-at, absent_gap}
use Rattle.table_change.proofs.Change.{insert_at_gap, insert-at}
use Rattle.spec.specs.Saturation.{Kept, raise, raise_all, kept_rows}
use Rattle.spec.proofs.Kept.{length-kept_rows}
use Rattle.update_kept.specs.inside.Entries.{Sought}
use Rattle.update_kept.proofs.Less.{ascending-drop}
use Rattle.update_raise.specs.inside.Raising.{absence}
use Rattle.update_raise.proofs.Raise.{tests-map}

-- ---- the rows of kept facts raised

-- Raising a row puts it into the set of rows.
pub raise-rows : (t : Triple) (k : Kept) → kept_rows (raise t k) ≡ insert t (kept_rows k)
unfolding raise insert
raise-rows t [] = refl
raise-rows t (e ∷ k) = tests-map kept_rows (is_less t e.0) (is_same t e.0) refl refl (ap (λ (l : List Triple). e.0 ∷ l) (raise-rows t k))

pub raise_all_asc : (ts : List Triple) (k : Kept) → Ascending (kept_rows k) → Ascending (kept_rows (raise_all ts k))
unfolding raise_all
raise_all_asc [] k a = a
raise_all_asc (t ∷ ts) k a = rw (raise-rows t (raise_all ts k)) (insert_asc t (kept_rows (raise_all ts k)) (raise_all_asc ts k a))

pub raise_all_old : {u : Triple} (ts : List Triple) (k : Kept) → Memᴰ u (kept_rows k) → Memᴰ u (kept_rows (raise_all ts k))
unfolding raise_all
raise_all_old [] k m = m
raise_all_old (t ∷ ts) k m = rw (raise-rows t (raise_all ts k)) (insert_old t (kept_rows (raise_all ts k)) (raise_all_old ts k m))

pub raise_all_cases : {u : Triple} (ts : List Triple) (k : Kept) → Memᴰ u (kept_rows (raise_all ts k)) → Memᴰ u ts ⊎ Memᴰ u (kept_rows k)
unfolding raise_all
raise_all_cases [] k m = inr m
raise_all_cases {u} (t ∷ ts) k m =
    ⊎_elim (λ (e : u ≡ t). inl (Memᴰ.head e)) (λ j. ⊎_elim (λ i. inl (Memᴰ.tail i)) inr (raise_all_cases ts k j))
    (insert_cases t (kept_rows (raise_all ts k)) (subst (Memᴰ u) (raise-rows t (raise_all ts k)) m))

-- ---- one row more

-- A row that is there adds none,
raise-present : (t : Triple) (k : Kept) → Ascending (kept_rows k) → Memᴰ t (kept_rows k) → length (raise t k) ≡ length k
raise-present t k a m =
    let p = member-at t (kept_rows k) a m in
    sym (length-kept_rows (raise t k)) ∙ ap length (raise-rows t k ∙ insert-at t (kept_rows k) p.0 p.1) ∙ length-kept_rows k

-- and one that is missing adds one.
pub insert_new-length : (t : Triple) (us : List Triple) → ¬ Memᴰ t us → length (insert t us) ≡ suc (length us)
unfolding insert_at
insert_new-length t us n =
    let p = absent_gap t us n in
    ap length (sym (insert_at_gap t us p.0 p.1))
    ∙ (let a = length-append (take p.0 us) (t ∷ drop p.0 us) in
    let b = sym (length-append (take p.0 us) (drop p.0 us)) ∙ ap length (take-append-drop p.0 us) in
    omega arith)

raise_absent : (t : Triple) (k : Kept) → ¬ Memᴰ t (kept_rows k) → length (raise t k) ≡ suc (length k)
raise_absent t k n = sym (length-kept_rows (raise t k)) ∙ ap length (raise-rows t k) ∙ insert_new-length t (kept_rows k) n ∙ ap suc (length-kept_rows k)

-- The rows that raising adds, one by one.
raise_all_more : (t : Triple) (ts : List Triple) (k : Kept) (f : Result ℕ ℕ) → Ascending (kept_rows k) → Above t ts → place t (kept_rows k) ≡ f → length (raise_all (t ∷ ts) k) ≡ absence f + length (raise_all ts k)
unfolding raise_all absence
raise_all_more t ts k (Ok i) a b e =
    let q = raise-present t (raise_all ts k) (raise_all_asc ts k a) (raise_all_old ts k (at_member t (kept_rows k) i e)) in
    omega arith
raise_all_more t ts k (Err i) a b e =
    let q = raise_absent t (raise_all ts k) (λ m. ⊎_elim (λ j. less_irrefl (above-member ts b t j)) (gap_absent t (kept_rows k) i a e) (raise_all_cases ts k m)) in
    omega arith

-- ---- the count

-- So many of the first j rows are missing, whatever the supports.
pub record Counting (ws rs : List ℕ) (c missing j : ℕ) : Type 0 where
  pub j_le : j ≤ c
  pub few : missing ≤ j
  pub counted : (k : Kept) → kept_rows k ≡ rows ws → missing + length (raise_all (drop j (first_rows c rs)) k) ≡ length (raise_all (first_rows c rs) k)

pub counting_start : (ws rs : List ℕ) (c : ℕ) → Counting ws rs c 0 0
counting_start ws rs c = record { j_le = omega arith; few = omega arith; counted = λ k e. omega arith }

absence_few : (f : Result ℕ ℕ) → absence f ≤ 1
unfolding absence
absence_few (Ok i) = omega arith
absence_few (Err i) = omega arith

pub absence-bound : (r : ℕ) (f : Result ℕ ℕ) → r ≡ absence f → r ≤ 1
absence-bound r f e = omega (arith, absence_few f)

pub counting_step : {ws rs : List ℕ} {c missing j : ℕ} → Sought ws rs c → Counting ws rs c missing j → (r : ℕ) (x : Triple) → j < c → x ≡ triple_from rs (j * 3) → r ≡ absence (place x (first_rows (count ws) (drop 1 ws)))
    → Counting ws rs c (missing + r) (j + 1)
counting_step {ws} {rs} {c} {missing} {j} S C r x h e q =
    let t : Triple = triple_from rs (j * 3) in
    let ts : List Triple = drop (suc j) (first_rows c rs) in
    let from : drop j (first_rows c rs) ≡ t ∷ ts = drop-cons (first_rows c rs) j (triple 0 0 0) (rw length-first_rows h) ∙ ap (λ (u : Triple). u ∷ ts) (get_or-first_rows c rs j (triple 0 0 0) h) in
    let above : Above t ts = subst Ascending from (ascending-drop j (first_rows c rs) S.sought_ascend) in
    let is : r ≡ absence (place t (rows ws)) = rw (← first_rows-rows ws (count ws) (length-rows ws), ← e) q in
    let a = C.few in
    record {
      j_le = omega arith;
      few = omega (arith, absence_few (place t (rows ws)));
      counted = λ k g.
          let s : length (raise_all (drop j (first_rows c rs)) k) ≡ absence (place t (rows ws)) + length (raise_all ts k) =
          rw (from, ← g) (raise_all_more t ts k (place t (kept_rows k)) (rw g S.ascends) above refl) in
          rw (add-one j) (omega (arith, C.counted k g));
    }

pub counting_end : {ws rs : List ℕ} {c missing j : ℕ} → Counting ws rs c missing j → c ≤ j → (k : Kept) → kept_rows k ≡ rows ws → missing + length k ≡ length (raise_all (first_rows c rs) k)
unfolding raise_all
counting_end {ws} {rs} {c} {missing} {j} C h k e =
    let none : drop j (first_rows c rs) ≡ [] = drop_of_length-le (first_rows c rs) {i = j} (omega (arith, length-first_rows c rs)) in
    rw none at (C.counted k e)
