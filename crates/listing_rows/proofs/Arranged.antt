-- Rows in a column order: no order loses a column, so distinct rows stay distinct, and sorted they are their ordered set. Assumes nothing.
use Prim.Native.Nat.{ℕ, suc, ◌+◌, ◌≤◌, ◌<◌}
use mathlib.Core.Path.{◌≡◌, refl, sym, ap, ap₂, ◌∙◌}
use mathlib.Core.Bool.{Bool, true, false, cond}
use mathlib.Core.List.Memᴰ
use mathlib.Core.List.{List, [], ◌∷◌, map, Memᴰ}
use native.Mathlib.Nat.{add-zero}
use native.Mathlib.Omega.{arith}
use lib.Dec.{eqb}
use lib.ListN.{length, get_or, length-map}
use borrow.Author.Tests.{eqb-true}
use Rattle.spec.specs.declared.Triple.{Triple}
use Rattle.spec.specs.Terms.{triple}
use Rattle.spec.specs.inside.Comparison.{Ascending, triple_eq}
use Rattle.spec.proofs.Lists.{by_test}
use Rattle.spec.proofs.Order.{less_ne}
use Rattle.spec.proofs.Ascending.{above_asc, above-member}
use Rattle.spec.specs.Lists.{select}
use Rattle.spec.specs.Tables as table
use Rattle.spec.proofs.ColumnOrders.{times_in, column_once}
use Rattle.spec.proofs.TableRows.{get_d_rows}
use Rattle.spec.specs.Rows.{less, insert_once, ordered}
use Rattle.rows.specs.inside.Rows.{tabulate, rows, row_at}
use Rattle.spec.specs.inside.Sorting.{insert, sort}
use Rattle.spec.proofs.RowOrder.{less_tri}
use Rattle.spec.proofs.OrderedRows.{ordered_iff}
use Rattle.spec.specs.Listings.{column_order, column, arranged, listing_rows}
use Rattle.listing_rows.specs.inside.Written.{RowsWritten}

-- ---- each order has all three columns

-- Triples with the same columns in an order agree in each column that stands in it.
same-column : (t u : Triple) (c : ℕ) (cs : List ℕ) → 0 < times_in c cs → map (column t) cs ≡ map (column u) cs → column t c ≡ column u c
unfolding select
same-column t u c [] h e = absurd (omega arith)
same-column t u c (d ∷ ds) h e =
    let a : column t d ≡ column u d = cc in
    let b : map (column t) ds ≡ map (column u) ds = cc in
    by_test (eqb c d) (λ q. let p : c ≡ d = eqb-true c d q in rw p a) (λ q. same-column t u c ds (rw q at h) b)

-- A column order loses nothing.
pub arranged_injective : (k : ℕ) (t u : Triple) → k ≤ 5 → arranged k t ≡ arranged k u → t ≡ u
unfolding arranged
arranged_injective k t u l e =
    let same : (c : ℕ) → c ≤ 2 → column t c ≡ column u c = λ c h. same-column t u c (column_order k) (omega (arith, column_once k c l h)) e in
    triple_eq t u (same 0 (omega arith)) (same 1 (omega arith)) (same 2 (omega arith))

-- ---- distinct rows

-- No row is among those after it.
abbrev pub Distinct : List (List ℕ) → Type 0
Distinct [] = Unit {0}
Distinct (r ∷ R) = (Memᴰ r R → ⊥) × Distinct R

-- A row that is not the first one is put in alike, by the two tests against it.
once_by : (x r : List ℕ) (R : List (List ℕ)) (a b : Bool) → less x r ≡ a → less r x ≡ b → (x ≡ r → ⊥) → insert x R ≡ insert_once x R →
    cond a (x ∷ r ∷ R) (r ∷ insert x R) ≡ cond a (x ∷ r ∷ R) (cond b (r ∷ insert_once x R) (r ∷ R))
once_by x r R true b p q h i = refl
once_by x r R false true p q h i = rw i
once_by x r R false false p q h i = absurd (h (less_tri x r p q))

-- A row that is not there is put in as into an ordered set.
insert_once_lem : (x : List ℕ) (R : List (List ℕ)) → (Memᴰ x R → ⊥) → insert x R ≡ insert_once x R
unfolding insert insert_once
insert_once_lem x [] h = refl
insert_once_lem x (r ∷ R) h = once_by x r R (less x r) (less r x) refl refl (λ e. h (Memᴰ.head e)) (insert_once_lem x R (λ m. h (Memᴰ.tail m)))

-- Distinct rows, sorted, are their ordered set.
pub sort-ordered : (R : List (List ℕ)) → Distinct R → sort R ≡ ordered R
unfolding sort ordered
sort-ordered [] d = refl
sort-ordered (r ∷ R) d = ap (insert r) (sort-ordered R d.1) ∙ insert_once_lem r (ordered R) (λ m. d.0 ((ordered_iff r R).0 m))

-- One row more, by the test on the first row.
length_by : (x r : List ℕ) (R : List (List ℕ)) (a : Bool) → length (insert x R) ≡ suc (length R) → length (cond a (x ∷ r ∷ R) (r ∷ insert x R)) ≡ suc (suc (length R))
length_by x r R true i = refl
length_by x r R false i = ap suc i

-- A row put in is one row more.
length-insert : (x : List ℕ) (R : List (List ℕ)) → length (insert x R) ≡ suc (length R)
unfolding insert
length-insert x [] = refl
length-insert x (r ∷ R) = length_by x r R (less x r) (length-insert x R)

-- Sorting keeps the number of rows.
pub length-sort : (R : List (List ℕ)) → length (sort R) ≡ length R
unfolding sort
length-sort [] = refl
length-sort (r ∷ R) = length-insert r (sort R) ∙ ap suc (length-sort R)

-- Ascending rows stay distinct in a column order.
pub arranged-distinct : (k : ℕ) (ts : List Triple) → k ≤ 5 → Ascending ts → Distinct (map (arranged k) ts)
arranged-distinct k [] l a = tt
arranged-distinct k (t ∷ ts) l a = (
  λ m. let w = Memᴰ.of_map (arranged k) ts m in less_ne (above-member ts a w.0 w.1) (arranged_injective k t w.0 l (sym w.2)),
  arranged-distinct k ts l (above_asc t ts a),
)

-- The rows of a listing are the rows in its order, sorted.
pub listing_sorted : (k : ℕ) (ts : List Triple) → k ≤ 5 → Ascending ts → sort (map (arranged k) ts) ≡ listing_rows k ts
unfolding listing_rows
listing_sorted k ts l a = sort-ordered (map (arranged k) ts) (arranged-distinct k ts l a)

-- A listing has as many rows as the table.
pub listing-length : (k : ℕ) (ts : List Triple) → k ≤ 5 → Ascending ts → length (listing_rows k ts) ≡ length ts
listing-length k ts l a = ap length (sym (listing_sorted k ts l a)) ∙ length-sort (map (arranged k) ts) ∙ length-map ts (arranged k)

-- ---- rows written

-- Rows that a function of the index gives, by the triples that they come from.
tabulate-map : (f : ℕ → List ℕ) (g : Triple → List ℕ) (s : ℕ) (ts : List Triple) (d : Triple) → ((j : ℕ) → j < length ts → f (s + j) ≡ g (get_or ts j d)) → tabulate f s (length ts) ≡ map g ts
unfolding tabulate
tabulate-map f g s [] d h = refl
tabulate-map f g s (t ∷ ts) d h =
    ap₂ ◌∷◌ (ap f (sym (add-zero s)) ∙ h 0 (omega arith)) (tabulate-map f g (s + 1) ts d (λ j l. ap f (omega arith) ∙ h (suc j) (omega arith)))

-- The rows that are written are the table's rows in the order.
pub written-rows : (k n : ℕ) (ws t s : List ℕ) → length (table.rows ws) ≡ n → RowsWritten (column_order k) n ws t s → rows 3 s 0 n ≡ map (arranged k) (table.rows ws)
unfolding arranged
written-rows k n ws t s e W =
    let d : Triple = triple 0 0 0 in
    rw (← e) (tabulate-map (row_at 3 s) (arranged k) 0 (table.rows ws) d
    (λ j l. let z : 0 + j ≡ j = omega arith in rw (z, get_d_rows ws j d l) (W.each j (omega arith))))
