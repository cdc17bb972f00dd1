-- The reply of collected rows: what `finish` leaves is what the definition says. Assumes nothing.
use Rattle.std.specs.Prelude.{Ok, Err}
use Prim.Native.Nat.{ℕ, ◌+◌, ◌*◌, ◌/◌, ◌≤◌, ◌<◌}
use mathlib.Core.Path.{◌≡◌, refl, sym, ap, ap₂, ◌∙◌, subst}
use mathlib.Core.Bool.{true, false}
use mathlib.Core.Logic.{⊎_elim}
use mathlib.Core.List.Memᴰ
use mathlib.Core.List.{List, [], ◌∷◌, Memᴰ}
use native.Mathlib.Nat.{le-div_iff_mul-le}
use native.Mathlib.Omega.{arith}
use lib.ListN.{length, replicate, length-replicate}
use borrow.Author.Tests.{le-leb, lt-leb, leb-false}
use Rattle.spec.specs.Rows.{less, ordered}
use Rattle.spec.specs.inside.Sorting.{RowsAbove as Above, AscendingRows as Ascending}
use Rattle.rows.specs.inside.Rows.{row_at, rows}
use Rattle.spec.proofs.RowOrder.{never, less_irrefl, less_trans}
use Rattle.spec.proofs.OrderedRows.{ordered_iff, ordered_ascends, ascending_ext, above-member}
use Rattle.rows.proofs.RowWords.{drop_ext}
use Rattle.rows.proofs.Tables.{tabulate-length}
use Rattle.spec.specs.Outputs.{are_fitting, filled, replied, give}
use Rattle.output.proofs.Filled.{get_or_zeros, rows-filled}
use Rattle.rows_distinct.specs.declared.Collected.{Collected}
use Rattle.rows_distinct.specs.inside.Collected.{Exceeds, Collects, gathered}

-- Ascending rows are no more than ascending rows that have them all.
other_than : (a b x : List ℕ) (A : List (List ℕ)) → less b a ≡ true → Above a A → Memᴰ x (a ∷ A) → x ≡ b → ⊥
other_than a b x A h u i e =
    let l : less b x ≡ true = ⊎_elim (λ (q : x ≡ a). ap (less b) q ∙ h) (λ k. less_trans b a x h (above-member a x A u k)) (Memᴰ.cases_cons i) in
    never (sym l ∙ ap (less b) e ∙ less_irrefl b)

pub ascending-length : (A B : List (List ℕ)) → Ascending A → Ascending B → ((x : List ℕ) → Memᴰ x A → Memᴰ x B) → length A ≤ length B
ascending-length [] B u v f = omega arith
ascending-length (a ∷ A) [] u v f = absurd (Memᴰ.not-nil (f a (Memᴰ.head refl)))
ascending-length (a ∷ A) (b ∷ B) u v f =
    ⊎_elim
    (λ (e : a ≡ b).
    let k : length A ≤ length B =
    ascending-length A B u.1 v.1 (λ x i. ⊎_elim
    (λ (q : x ≡ b). absurd (never (sym (above-member a x A u.0 i) ∙ ap (less a) (q ∙ sym e) ∙ less_irrefl a)))
    (λ j. j) (Memᴰ.cases_cons (f x (Memᴰ.tail i)))) in
    omega arith)
    (λ j.
    let k : length (a ∷ A) ≤ length B =
    ascending-length (a ∷ A) B u v.1 (λ x i. ⊎_elim (λ (q : x ≡ b). absurd (other_than a b x A (above-member b a B v.0 j) u.0 i q)) (λ l. l) (Memᴰ.cases_cons (f x i))) in
    omega arith)
    (Memᴰ.cases_cons (f a (Memᴰ.head refl)))

-- An excess is refused.
exceeds_unfit : (m len : ℕ) (R : List (List ℕ)) → Exceeds m len R → are_fitting m len (ordered R) ≡ false
unfolding are_fitting
exceeds_unfit m len R e =
    let l : length e.proof_rows ≤ length (ordered R) =
    ascending-length e.proof_rows (ordered R) e.ascends (ordered_ascends R) (λ x i. (ordered_iff x R).1 (e.each_put x i)) in
    lt-leb (length (ordered R)) (len / m) (omega (arith, leb-false (length e.proof_rows) (len / m) e.too_many))

pub gathers_refused : (m : ℕ) (R : List (List ℕ)) (t s : List ℕ) (c : Collected) → c.exceeded ≡ true → s ≡ replicate (length t) 0 → Collects m R t c → replied (Err 8) s ≡ gathered m R (length t)
unfolding gathered give
gathers_refused m R t s c h z C = rw (exceeds_unfit m (length t) R (C.exceeds h), z)

-- Settled rows are given.
pub gathers-rows : (m : ℕ) (R : List (List ℕ)) (t s : List ℕ) (c : Collected) → 0 < m → c.added ≡ 0 → c.exceeded ≡ false → length s ≡ length t → Collects m R s c → replied (Ok c.sorted) s ≡ gathered m R (length t)
unfolding gathered give are_fitting
gathers-rows m R t s c pos a e z C =
    let o : c.sorted + c.added ≡ c.sorted = omega arith in
    let q : rows m s 0 c.sorted ≡ ordered R =
    ascending_ext (rows m s 0 c.sorted) (ordered R) C.ascends (ordered_ascends R) (λ x.
    (λ i. (ordered_iff x R).1 ((C.exact e x).0 (subst (λ (k : ℕ). Memᴰ x (rows m s 0 k)) (sym o) i)), λ i. subst (λ (k : ℕ). Memᴰ x (rows m s 0 k)) o ((C.exact e x).1 ((ordered_iff x R).0 i)))) in
    let n : length (ordered R) ≡ c.sorted = ap length (sym q) ∙ tabulate-length (row_at m s) 0 c.sorted in
    let h : c.sorted * m ≤ length t = subst (λ (k : ℕ). k * m ≤ length t) o (subst (λ (k : ℕ). (c.sorted + c.added) * m ≤ k) z C.within) in
    let l : c.sorted ≤ length t / m = (le-div_iff_mul-le pos).1 h in
    let w : s ≡ filled (length t) (ordered R) =
    rows-filled m c.sorted (length t) s (ordered R) z h q
    (drop_ext (c.sorted * m) (replicate (length t) 0) s (z ∙ sym (length-replicate {A = ℕ} (length t) 0)) (λ x g. C.zeros x (subst (λ (k : ℕ). k * m ≤ x) (sym o) g) ∙ sym (get_or_zeros (length t) x))) in
    rw (le-leb (length (ordered R)) (length t / m) (omega arith)) (ap₂ replied (ap Ok (sym n)) w)
