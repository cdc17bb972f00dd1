-- Rows collected in an output: what each step of `put` keeps. Assumes nothing.
use Prim.Native.Nat.{ℕ, suc, ◌+◌, ◌*◌, ◌/◌, ◌≤◌, ◌<◌}
use mathlib.Core.Path.{◌≡◌, refl, sym, ap, ◌∙◌, subst}
use mathlib.Core.Bool.{Bool, true, false, cond}
use mathlib.Core.Logic.{◌↔◌, ⊎_elim}
use mathlib.Core.List.{List, [], ◌∷◌, ◌++◌, Memᴰ}
use native.Mathlib.Nat.{zero-mul, add-zero, suc-mul, mul-le-mul_right, le-div_iff_mul-le}
use native.Mathlib.Omega.{arith}
use lib.ListN.{length, get_or, replicate}
use borrow.Author.Tests.{lt-leb}
use Rattle.spec.specs.Rows.{less, insert_once, ordered}
use Rattle.spec.specs.inside.Sorting.{AscendingRows as Ascending}
use Rattle.rows.specs.inside.Rows.{row_at, rows, tabulate}
use Rattle.rows.specs.inside.Effects.{HoldsRows}
use Rattle.rows_merge.specs.inside.Effects.{Sorted}
use Rattle.spec.proofs.RowOrder.{never, less_tri}
use Rattle.spec.proofs.OrderedRows.{insert_once_ascends, insert_once_cases, ordered_iff, ordered_ascends}
use Rattle.rows.proofs.SortLaws.{ascending_sorted}
use Rattle.rows.proofs.RowWords.{mul_lt, row_ext}
use Rattle.spec.proofs.Lists.{le_or}
use Rattle.rows.proofs.Tables.{tabulate_ext, tabulate-snoc, tabulate-append, tabulate-length}
use Rattle.spec.specs.Outputs.{are_fitting}
use Rattle.output.proofs.Filled.{get_or_zeros}
use Rattle.rows_distinct.specs.declared.Collected.{Collected}
use Rattle.rows_distinct.specs.inside.Collected.{Exceeds, Collects}
use Rattle.rows_single.specs.inside.Effects.{Found, RowWritten}

-- The struct of its three fields.
abbrev pub counted : ℕ → ℕ → Bool → Collected
counted a b e = record { sorted = a; added = b; exceeded = e }

-- Lists with the same members are collected alike: neither order nor repeats matter.
pub collects_ext : {m : ℕ} {R S : List (List ℕ)} {out : List ℕ} {c : Collected} → ((r : List ℕ) → Memᴰ r R ↔ Memᴰ r S) → Collects m R out c → Collects m S out c
collects_ext f C = record {
  within = C.within;
  ascends = C.ascends;
  zeros = C.zeros;
  exact = λ e r. (λ i. (f r).0 ((C.exact e r).0 i), λ i. (C.exact e r).1 ((f r).1 i));
  exceeds = λ e. let x = C.exceeds e in record { proof_rows = x.proof_rows; ascends = x.ascends; each_put = λ r i. (f r).0 (x.each_put r i); too_many = x.too_many };
}

-- Rows A are put, and rows B after them.
pub collects_then : {m : ℕ} (A B R : List (List ℕ)) {out : List ℕ} {c : Collected} → Collects m (B ++ (A ++ R)) out c → Collects m ((A ++ B) ++ R) out c
collects_then A B R C =
    collects_ext (λ r. (
      λ i. ⊎_elim (λ b. mathlib.Core.List.Memᴰ.append_left R (mathlib.Core.List.Memᴰ.append_right A b)) (λ k. ⊎_elim (λ a. mathlib.Core.List.Memᴰ.append_left R (mathlib.Core.List.Memᴰ.append_left B a)) (λ l. mathlib.Core.List.Memᴰ.append_right (A ++ B) l) (mathlib.Core.List.Memᴰ.append_cases A k)) (mathlib.Core.List.Memᴰ.append_cases B i),
      λ i. ⊎_elim (λ k. ⊎_elim (λ a. mathlib.Core.List.Memᴰ.append_right B (mathlib.Core.List.Memᴰ.append_left R a)) (λ b. mathlib.Core.List.Memᴰ.append_left (A ++ R) b) (mathlib.Core.List.Memᴰ.append_cases A k)) (λ l. mathlib.Core.List.Memᴰ.append_right B (mathlib.Core.List.Memᴰ.append_right A l)) (mathlib.Core.List.Memᴰ.append_cases (A ++ B) i),
    )) C

-- Nothing is collected in an output of zeros.
pub collects_none : (m len : ℕ) → Collects m [] (replicate len 0) (counted 0 0 false)
unfolding tabulate
collects_none m len =
    let z : 0 * m ≡ 0 = zero-mul m in
    record {
      within = omega (arith, z);
      ascends = tt;
      zeros = λ w l. get_or_zeros len w;
      exact = λ e r. (λ i. i, λ i. i);
      exceeds = λ e. absurd (never (sym e));
    }

-- A row that is among the rows that were put.
pub collects_again : (m : ℕ) (R : List (List ℕ)) (out x : List ℕ) (c : Collected) → Collects m R out c → Memᴰ x R → Collects m (x ∷ R) out c
collects_again m R out x c C h = collects_ext (λ r. (λ i. mathlib.Core.List.Memᴰ.tail i, λ i. ⊎_elim (λ e. mathlib.Core.List.Memᴰ.cast e h) (λ k. k) (mathlib.Core.List.Memᴰ.cases_cons i))) C

-- A row that is found among all rows.
pub collects_there : (m : ℕ) (R : List (List ℕ)) (out x : List ℕ) (c : Collected) → Memᴰ x (rows m out 0 (c.sorted + c.added)) → c.exceeded ≡ false → Collects m R out c → Collects m (x ∷ R) out c
collects_there m R out x c h e C = collects_again m R out x c C ((C.exact e x).0 h)

-- A row that is found among the sorted rows.
pub collects_found : (m : ℕ) (R : List (List ℕ)) (out x : List ℕ) (c : Collected) (b : Bool) → Found m c.sorted out x b → b ≡ true → c.exceeded ≡ false → Collects m R out c → Collects m (x ∷ R) out c
collects_found m R out x c b f h e C =
    let k : Memᴰ x (rows m out 0 c.sorted ++ rows m out (0 + c.sorted) c.added) = mathlib.Core.List.Memᴰ.append_left (rows m out (0 + c.sorted) c.added) (f.present h) in
    collects_there m R out x c (subst (Memᴰ x) (tabulate-append (row_at m out) 0 c.sorted c.added) k) e C

-- What exceeds the room still does after one more row.
pub exceeds_more : (m len : ℕ) (R : List (List ℕ)) (x : List ℕ) → Exceeds m len R → Exceeds m len (x ∷ R)
exceeds_more m len R x e = record { proof_rows = e.proof_rows; ascends = e.ascends; each_put = λ r i. mathlib.Core.List.Memᴰ.tail (e.each_put r i); too_many = e.too_many }

-- After an excess nothing is done.
pub collects_exceeded : (m : ℕ) (R : List (List ℕ)) (out x : List ℕ) (c : Collected) → c.exceeded ≡ true → Collects m R out c → Collects m (x ∷ R) out c
collects_exceeded m R out x c h C = record {
  within = C.within;
  ascends = C.ascends;
  zeros = C.zeros;
  exact = λ e. absurd (never (sym h ∙ e));
  exceeds = λ e. exceeds_more m (length out) R x (C.exceeds e);
}

-- There is room for one row more.
pub room_for_one : (m n len : ℕ) → 0 < m → n < len / m → n * m + m ≤ len
room_for_one m n len pos h =
    let k : suc n * m ≤ len = (le-div_iff_mul-le pos).0 (omega arith) in
    omega (arith, suc-mul n m)

-- The words of one row more.
one_more_lem : (m a b : ℕ) → (a + (b + 1)) * m ≡ (a + b) * m + m
one_more_lem m a b = let e : a + (b + 1) ≡ suc (a + b) = omega arith in rw e (omega (arith, suc-mul (a + b) m))

-- A row is written behind the others.
pub added-within : (m a b : ℕ) (t s : List ℕ) → length s ≡ length t → (a + b) * m + m ≤ length t → (a + (b + 1)) * m ≤ length s
added-within m a b t s z fits = omega (arith, one_more_lem m a b)

module _ (m a b : ℕ) (R : List (List ℕ)) (x t s : List ℕ) (w : RowWritten m (a + b) x t s) (z : length s ≡ length t) where
  old-rows : (k : ℕ) → k ≤ a + b → rows m s 0 k ≡ rows m t 0 k
  old-rows k l = tabulate_ext (row_at m t) (row_at m s) 0 k (λ i p q. row_ext m (i * m) (i * m) t s (λ y g. w.before (i * m + y) (omega (arith, mul_lt i (a + b) m (omega arith)))))

  new-rows : rows m s 0 (a + (b + 1)) ≡ rows m t 0 (a + b) ++ (x ∷ [])
  new-rows =
      let e : a + (b + 1) ≡ suc (a + b) = omega arith in
      let o : 0 + (a + b) ≡ a + b = omega arith in
      rw (e, tabulate-snoc (row_at m s) 0 (a + b), o, w.here, old-rows (a + b) (omega arith))

  add_members : (r : List ℕ) → (Memᴰ r (rows m t 0 (a + b)) ↔ Memᴰ r R) → Memᴰ r (rows m s 0 (a + (b + 1))) ↔ Memᴰ r (x ∷ R)
  add_members r f = (
    λ i. ⊎_elim (λ k. mathlib.Core.List.Memᴰ.tail (f.0 k)) (λ k. mathlib.Core.List.Memᴰ.head (mathlib.Core.List.Memᴰ.eq_of_singleton k)) (mathlib.Core.List.Memᴰ.append_cases (rows m t 0 (a + b)) (subst (Memᴰ r) new-rows i)),
    λ i. subst (Memᴰ r) (sym new-rows) (⊎_elim (λ e. mathlib.Core.List.Memᴰ.append_right (rows m t 0 (a + b)) (mathlib.Core.List.Memᴰ.head e)) (λ k. mathlib.Core.List.Memᴰ.append_left (x ∷ []) (f.1 k)) (mathlib.Core.List.Memᴰ.cases_cons i)),
  )

  pub collects-added : (e : Bool) → (a + b) * m + m ≤ length t → Collects m R t (counted a b e) → Collects m (x ∷ R) s (counted a (b + 1) e)
  collects-added e fits C = record {
    within = omega (arith, one_more_lem m a b);
    ascends = subst Ascending (sym (old-rows a (omega arith))) C.ascends;
    zeros = λ y l. w.after y (omega (arith, one_more_lem m a b)) ∙ C.zeros y (omega (arith, one_more_lem m a b));
    exact = λ q r. add_members r (C.exact q r);
    exceeds = λ q. subst (λ (k : ℕ). Exceeds m k (x ∷ R)) (sym z) (exceeds_more m (length t) R x (C.exceeds q));
  }

-- The rows are sorted and repeats are dropped.
pub settled-within : (m n r : ℕ) (t s : List ℕ) → r ≤ n → n * m ≤ length t → length s ≡ length t → (r + 0) * m ≤ length s
settled-within m n r t s l h z = rw (add-zero r) (omega (arith, mul-le-mul_right {m = r} {n = n} m l))

pub collects_settled : (m a b r : ℕ) (e : Bool) (R : List (List ℕ)) (t s : List ℕ) →
    (Sorted (rows m t 0 a) → ((w : ℕ) → (a + b) * m ≤ w → get_or t w 0 ≡ 0) → HoldsRows m (a + b) t s r (ordered (rows m t 0 (a + b)))) →
    length s ≡ length t → Collects m R t (counted a b e) → Collects m R s (counted r 0 e)
collects_settled m a b r e R t s f z C =
    let H : HoldsRows m (a + b) t s r (ordered (rows m t 0 (a + b))) = f (ascending_sorted (rows m t 0 a) C.ascends) C.zeros in
    let o : r + 0 ≡ r = add-zero r in
    record {
      within = settled-within m (a + b) r t s H.count C.within z;
      ascends = subst Ascending (sym H.holds) (ordered_ascends (rows m t 0 (a + b)));
      zeros = λ w l. ⊎_elim (λ (g : (a + b) * m ≤ w). H.after w g ∙ C.zeros w g) (λ (g : w < (a + b) * m). H.zeros w (rw o at l) g) (le_or ((a + b) * m) w);
      exact = λ q x. rw (o, H.holds) (
        λ i. (C.exact q x).0 ((ordered_iff x (rows m t 0 (a + b))).0 i),
        λ i. (ordered_iff x (rows m t 0 (a + b))).1 ((C.exact q x).1 i),
      );
      exceeds = λ q. subst (λ (k : ℕ). Exceeds m k R) (sym z) (C.exceeds q);
    }

-- A row that is not there is one row more.
once_by : (x r : List ℕ) (R : List (List ℕ)) (a b : Bool) → less x r ≡ a → less r x ≡ b → (x ≡ r → ⊥) → length (insert_once x R) ≡ suc (length R) →
    length (cond a (x ∷ r ∷ R) (cond b (r ∷ insert_once x R) (r ∷ R))) ≡ suc (suc (length R))
once_by x r R true b p q h i = refl
once_by x r R false true p q h i = ap suc i
once_by x r R false false p q h i = absurd (h (less_tri x r p q))

insert_once_new : (x : List ℕ) (R : List (List ℕ)) → (Memᴰ x R → ⊥) → length (insert_once x R) ≡ suc (length R)
unfolding insert_once
insert_once_new x [] h = refl
insert_once_new x (r ∷ R) h = once_by x r R (less x r) (less r x) refl refl (λ e. h (mathlib.Core.List.Memᴰ.head e)) (insert_once_new x R (λ m. h (mathlib.Core.List.Memᴰ.tail m)))

-- The sorted rows leave no room, and a row is not among them.
pub collects_excess : (m : ℕ) (R : List (List ℕ)) (out x : List ℕ) (c : Collected) (b : Bool) → Found m c.sorted out x b → b ≡ false → c.added ≡ 0 → c.exceeded ≡ false → length out / m ≤ c.sorted + c.added →
    Collects m R out c → Collects m (x ∷ R) out (counted c.sorted c.added true)
unfolding are_fitting
collects_excess m R out x c b f h a e l C =
    let S : List (List ℕ) = rows m out 0 c.sorted in
    let o : c.sorted + c.added ≡ c.sorted = omega arith in
    let each : (r : List ℕ) → Memᴰ r S → Memᴰ r R = λ r i. (C.exact e r).0 (subst (λ (k : ℕ). Memᴰ r (rows m out 0 k)) (sym o) i) in
    let n : length (insert_once x S) ≡ suc c.sorted = insert_once_new x S (f.absent h C.ascends) ∙ ap suc (tabulate-length (row_at m out) 0 c.sorted) in
    record {
      within = C.within;
      ascends = C.ascends;
      zeros = C.zeros;
      exact = λ q. absurd (never q);
      exceeds = λ q. record {
        proof_rows = insert_once x S;
        ascends = insert_once_ascends x S C.ascends;
        each_put = λ r i. ⊎_elim (λ p. mathlib.Core.List.Memᴰ.head p) (λ k. mathlib.Core.List.Memᴰ.tail (each r k)) (insert_once_cases r x S i);
        too_many = lt-leb (length (insert_once x S)) (length out / m) (omega arith);
      };
    }
