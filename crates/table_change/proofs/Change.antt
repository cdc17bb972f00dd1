-- Rows with one more or one less at the place that a search found are the set with the row or without it. Assumes nothing.
use Prim.Native.Nat.{ℕ, ◌+◌, ◌*◌, ◌≤◌, ◌<◌}
use mathlib.Core.Path.{◌≡◌, refl, sym, ap, ◌∙◌}
use mathlib.Core.Bool.{Bool, true}
use mathlib.Core.Logic.{⊎_elim}
use mathlib.Core.List.{List, [], ◌∷◌, Memᴰ}
use native.Mathlib.Nat.{suc-add}
use native.Mathlib.Omega.{arith}
use lib.ListN.{length, length-append, length-drop}
use lib.Seq.{length-take-le}
use Rattle.spec.specs.declared.Triple.{Triple}
use Rattle.spec.specs.Order.{insert, remove}
use Rattle.spec.specs.inside.Comparison.{Less, compare_triples}
use Rattle.spec.proofs.Order.{less_ne, by_order_elim}
use Rattle.spec.proofs.Tests.{order-less, order_same, order_more, same_yes, same_no}
use Rattle.spec.proofs.Ascending.{insert_asc, insert_cases, remove_asc, remove_sub, remove-length}
use Rattle.std.specs.Prelude.{Result, Ok, Err}
use Rattle.spec.specs.Tables.{capacity, rows, layout}
use Rattle.spec.specs.Lists.{all}
use Rattle.table_find.specs.inside.Search.{next, place}
use Rattle.table_change.specs.inside.Words.{insert_at, remove_at}
use Rattle.spec.specs.inside.Laid.{WellFormed}
use Rattle.spec.proofs.TableAll.{all-member, member-all}
use Rattle.spec.proofs.TableFormed.{capacity_fits, capacity_most, well_formed_of}
use Rattle.table_find.proofs.Place.{missing_at}

-- What insertion does at a place.
abbrev Inserted : Triple → List Triple → Result ℕ ℕ → Type 0
Inserted x us (Ok i) = insert x us ≡ us
Inserted x us (Err i) = insert_at i x us ≡ insert x us

inserted-next : (x u : Triple) (us : List Triple) → Less u x → (f : Result ℕ ℕ) → Inserted x us f → Inserted x (u ∷ us) (next f)
unfolding insert insert_at
inserted-next x u us l (Ok i) p = rw (order_more x u (x ∷ u ∷ us) (u ∷ us) (u ∷ insert x us) l) (ap (λ (r : List Triple). u ∷ r) p)
inserted-next x u us l (Err i) p = rw (order_more x u (x ∷ u ∷ us) (u ∷ us) (u ∷ insert x us) l) (ap (λ (r : List Triple). u ∷ r) p)

inserted : (x : Triple) (us : List Triple) → Inserted x us (place x us)
unfolding place insert insert_at
inserted x [] = refl
inserted x (u ∷ us) =
    by_order_elim (Inserted x (u ∷ us)) (compare_triples u x) (λ l. inserted-next x u us l (place x us) (inserted x us))
    (λ e. order_same x u (x ∷ u ∷ us) (u ∷ us) (u ∷ insert x us) (sym e))
    (λ l. sym (order-less x u (x ∷ u ∷ us) (u ∷ us) (u ∷ insert x us) l))

-- Insertion at the gap is insertion into the set; what is there stays.
pub insert_at_gap : (x : Triple) (us : List Triple) (i : ℕ) → place x us ≡ Err i → insert_at i x us ≡ insert x us
insert_at_gap x us i e = rw e at (inserted x us)

pub insert-at : (x : Triple) (us : List Triple) (i : ℕ) → place x us ≡ Ok i → insert x us ≡ us
insert-at x us i e = rw e at (inserted x us)

-- What removal does at a place.
abbrev Removed : Triple → List Triple → Result ℕ ℕ → Type 0
Removed x us (Ok i) = remove_at i us ≡ remove x us
Removed x us (Err i) = Unit {0}

removed-next : (x u : Triple) (us : List Triple) → Less u x → (f : Result ℕ ℕ) → Removed x us f → Removed x (u ∷ us) (next f)
unfolding remove remove_at
removed-next x u us l (Ok i) p =
    rw (suc-add, same_no x u us (u ∷ remove x us) (λ e. less_ne l (sym e))) (ap (λ (r : List Triple). u ∷ r) p)
removed-next x u us l (Err i) p = tt

removed : (x : Triple) (us : List Triple) → Removed x us (place x us)
unfolding place remove remove_at
removed x [] = tt
removed x (u ∷ us) =
    by_order_elim (Removed x (u ∷ us)) (compare_triples u x) (λ l. removed-next x u us l (place x us) (removed x us))
    (λ e. sym (same_yes x u us (u ∷ remove x us) (sym e))) (λ _. tt)

-- Removal of the row found is removal from the set; what is absent leaves it as it is.
pub remove_at-at : (x : Triple) (us : List Triple) (i : ℕ) → place x us ≡ Ok i → remove_at i us ≡ remove x us
remove_at-at x us i e = rw e at (removed x us)

pub remove_absent : (x : Triple) (us : List Triple) → ¬ Memᴰ x us → remove x us ≡ us
unfolding remove
remove_absent x [] n = refl
remove_absent x (u ∷ us) n =
    rw (same_no x u us (u ∷ remove x us) (λ e. n (Memᴰ.head e))) (ap (λ (r : List Triple). u ∷ r) (remove_absent x us (λ m. n (Memᴰ.tail m))))

-- ---- lengths and tests

pub length-insert_at : (i : ℕ) (x : Triple) (us : List Triple) → i ≤ length us → length (insert_at i x us) ≡ length us + 1
unfolding insert_at
length-insert_at i x us h = simp (length-append, length-take-le i us h, length-drop) (omega arith)

pub length-remove_at : (i : ℕ) (us : List Triple) → i < length us → length (remove_at i us) + 1 ≡ length us
unfolding remove_at
length-remove_at i us h = simp (length-append, length-take-le i us (omega arith), length-drop) (omega arith)

pub all_insert : (test : Triple → Bool) (x : Triple) (us : List Triple) → test x ≡ true → all test us ≡ true → all test (insert x us) ≡ true
all_insert test x us e a = member-all test (insert x us) (λ u m. ⊎_elim (λ (q : u ≡ x). rw q e) (λ j. all-member test us a j) (insert_cases x us m))

pub all_remove : (test : Triple → Bool) (x : Triple) (us : List Triple) → all test us ≡ true → all test (remove x us) ≡ true
all_remove test x us a = member-all test (remove x us) (λ u m. all-member test us a (remove_sub x us m))

-- ---- tables

-- A well-formed table below capacity stays well formed with one allowed row more.
pub well_formed-insert : {allowed : Triple → Bool} {most : ℕ} {ws : List ℕ} (vs : List ℕ) (i : ℕ) (x : Triple) → WellFormed allowed most ws → allowed x ≡ true → length (rows ws) < capacity most ws
    → place x (rows ws) ≡ Err i → vs ≡ layout (length ws) (insert_at i x (rows ws)) → WellFormed allowed most vs
well_formed-insert {allowed} {most} {ws} vs i x W a h p e =
    let q : insert_at i x (rows ws) ≡ insert x (rows ws) = insert_at_gap x (rows ws) i p in
    let n : length (insert_at i x (rows ws)) ≡ length (rows ws) + 1 = length-insert_at i x (rows ws) (missing_at x (rows ws) i p).within in
    let m : length (insert x (rows ws)) ≡ length (rows ws) + 1 = sym (ap length q) ∙ n in
    let f : (length (rows ws) + 1) * 3 < length ws = capacity_fits most ws (length (rows ws) + 1) (omega (arith, W.laid.fits)) (omega arith) in
    well_formed_of allowed most vs (length ws) (insert x (rows ws)) (rw q at e) (rw m f) (rw m (omega (arith, capacity_most most ws))) (insert_asc x (rows ws) W.ascends)
    (all_insert allowed x (rows ws) a W.each_allowed)

-- And with one row less.
pub well_formed-remove : {allowed : Triple → Bool} {most : ℕ} {ws : List ℕ} (vs : List ℕ) (i : ℕ) (x : Triple) → WellFormed allowed most ws → place x (rows ws) ≡ Ok i
    → vs ≡ layout (length ws) (remove_at i (rows ws)) → WellFormed allowed most vs
well_formed-remove {allowed} {most} {ws} vs i x W p e =
    let q : remove_at i (rows ws) ≡ remove x (rows ws) = remove_at-at x (rows ws) i p in
    let m : length (remove x (rows ws)) ≤ length (rows ws) = remove-length x (rows ws) in
    well_formed_of allowed most vs (length ws) (remove x (rows ws)) (rw q at e) (omega (arith, W.laid.fits)) (omega (arith, W.within, capacity_most most ws)) (remove_asc x (rows ws) W.ascends)
    (all_remove allowed x (rows ws) W.each_allowed)
