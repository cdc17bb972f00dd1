-- Rows raised from the last to the first, in a list of kept facts that is split where the pass stands. Assumes nothing.
use Prim.Native.Nat.{ℕ, zero, suc, ◌+◌, ◌-◌, ◌≤◌, ◌<◌}
use mathlib.Core.Path.{◌≡◌, refl, sym, ap, ◌∙◌}
use mathlib.Core.Bool.{Bool, true, false, cond}
use mathlib.Core.List.{List, [], ◌∷◌, ◌++◌, append_assoc, append-nil}
use native.Mathlib.Omega.{arith}
use lib.ListN.{length, length-append}
use Rattle.spec.specs.declared.Triple.{Triple}
use Rattle.spec.specs.inside.Comparison.{Less, Above, Ascending}
use Rattle.spec.specs.Order.{is_less, is_same}
use Rattle.spec.proofs.Order.{less_trans}
use Rattle.spec.proofs.Tests.{order-less, order_same, order_more}
use Rattle.spec.proofs.Ascending.{above_asc}
use Rattle.std.specs.declared.cmp.Ordering.{Ordering}
use Rattle.std.specs.declared.cmp.Ordering.TheVariants.{Equal, Greater}
use Rattle.spec.specs.Tables.{row_at}
use Rattle.table_find.specs.inside.Search.{ordering}
use Rattle.table_find.proofs.Place.{ordering_says}
use Rattle.spec.specs.Saturation.{Kept, raise, raise_all, kept_rows}
use Rattle.spec.proofs.Saturation.{raise_all-length}
use Rattle.update_kept.proofs.Less.{AllLess}
use Rattle.update_raise.specs.inside.Raising.{last_ordering}

-- ---- lists of rows that are all less than a row

pub all-less_weaken : {t v : Triple} (us : List Triple) → Less t v → AllLess us t → AllLess us v
all-less_weaken [] h a = tt
all-less_weaken (u ∷ us) h a = (less_trans a.0 h, all-less_weaken us h a.1)

pub all-less-snoc : {v : Triple} (us : List Triple) (t : Triple) → AllLess us v → Less t v → AllLess (us ++ (t ∷ [])) v
all-less-snoc [] t a h = (h, tt)
all-less-snoc (u ∷ us) t a h = (a.0, all-less-snoc us t a.1 h)

above_later : (u t : Triple) (us vs : List Triple) → Above u (us ++ (t ∷ vs)) → Less u t
above_later u t [] vs a = a.0
above_later u t (w ∷ us) vs a = less_trans a.0 (above_later w t us vs a.1)

-- In ascending rows those before a row are less.
pub before-less : (us : List Triple) (t : Triple) (vs : List Triple) → Ascending (us ++ (t ∷ vs)) → AllLess us t
before-less [] t vs a = tt
before-less (u ∷ us) t vs a = (above_later u t us vs a, before-less us t vs (above_asc u (us ++ (t ∷ vs)) a))

-- Each of some rows is less than the first kept fact.
abbrev pub AllBefore : List Triple → Kept → Type 0
AllBefore ts [] = Unit {0}
AllBefore ts (e ∷ d) = AllLess ts e.0

-- ---- raise in a list of two parts

-- A choice by two tests, of what a function gives.
pub tests-map : {A B : Type 0} (f : A → B) (p q : Bool) {x y z : A} {x' y' z' : B} → f x ≡ x' → f y ≡ y' → f z ≡ z' → f (cond p x (cond q y z)) ≡ cond p x' (cond q y' z')
tests-map f true q a b c = a
tests-map f false true a b c = b
tests-map f false false a b c = c

-- A row less than the first of the second part is raised in the first part,
raise_front : (t : Triple) (k d : Kept) → AllBefore (t ∷ []) d → raise t (k ++ d) ≡ raise t k ++ d
unfolding raise
raise_front t [] [] h = refl
raise_front t [] (e ∷ d) h = order-less t e.0 _ _ _ h.0
raise_front t (e ∷ k) d h =
    rw (raise_front t k d h)
    (sym (tests-map (λ (r : Kept). r ++ d) (is_less t e.0) (is_same t e.0) {x = (t, 1) ∷ e ∷ k} {y = (e.0, suc e.1) ∷ k} {z = e ∷ raise t k} refl refl refl))

-- and one that the first part is less than, in the second.
raise_past : (t : Triple) (k d : Kept) → AllLess (kept_rows k) t → raise t (k ++ d) ≡ k ++ raise t d
unfolding raise
raise_past t [] d h = refl
raise_past t (e ∷ k) d h = order_more t e.0 _ _ _ h.0 ∙ ap (λ (r : Kept). e ∷ r) (raise_past t k d h.1)

-- The first kept fact is raised,
raise_first : (t : Triple) (n : ℕ) (d : Kept) → raise t ((t, n) ∷ d) ≡ (t, suc n) ∷ d
unfolding raise
raise_first t n d = order_same t t _ _ _ refl

-- or the row enters before it.
raise_new : (t : Triple) (d : Kept) → AllBefore (t ∷ []) d → raise t d ≡ (t, 1) ∷ d
unfolding raise
raise_new t [] h = refl
raise_new t (e ∷ d) h = order-less t e.0 _ _ _ h.0

raise_all-snoc : (ts : List Triple) (t : Triple) (k : Kept) → raise_all (ts ++ (t ∷ [])) k ≡ raise_all ts (raise t k)
unfolding raise_all
raise_all-snoc [] t k = refl
raise_all-snoc (u ∷ ts) t k = ap (raise u) (raise_all-snoc ts t k)

before_first : (t : Triple) (ts : List Triple) (d : Kept) → AllBefore (t ∷ ts) d → AllBefore (t ∷ []) d × AllBefore ts d
before_first t ts [] h = (tt, tt)
before_first t ts (e ∷ d) h = ((h.0, tt), h.1)

before_last : (ts : List Triple) (t : Triple) (d : Kept) → AllBefore (ts ++ (t ∷ [])) d → AllBefore (t ∷ []) d
before_last ts t [] h = tt
before_last [] t (e ∷ d) h = h
before_last (u ∷ ts) t (e ∷ d) h = before_last ts t (e ∷ d) h.1

raise_all_front : (ts : List Triple) (k d : Kept) → AllBefore ts d → raise_all ts (k ++ d) ≡ raise_all ts k ++ d
unfolding raise_all
raise_all_front [] k d h = refl
raise_all_front (t ∷ ts) k d h = let b = before_first t ts d h in ap (raise t) (raise_all_front ts k d b.1) ∙ raise_front t (raise_all ts k) d b.0

-- ---- where the pass stands

-- The rows ts are still to be raised in lo, done is as it will be, and together they make the kept facts m.
pub record Rising (m : Kept) (ts : List Triple) (lo done : Kept) : Type 0 where
  pub whole : raise_all ts (lo ++ done) ≡ m
  pub ahead : AllBefore ts done

pub rising_start : (ts : List Triple) (k : Kept) → Rising (raise_all ts k) ts k []
rising_start ts k = record { whole = rw append-nil refl; ahead = tt }

-- The last kept fact is higher than every row: it stays as it is.
pub rising_higher : {m : Kept} {ts : List Triple} {done : Kept} (lo : Kept) (e : Triple × ℕ) → Rising m ts (lo ++ (e ∷ [])) done → AllLess ts e.0 → Rising m ts lo (e ∷ done)
rising_higher {m} {ts} {done} lo e R h = record { whole = rw (append_assoc lo (e ∷ []) done) at R.whole; ahead = h }

-- It is the last row: its support is raised.
pub rising_equal : {m : Kept} {done : Kept} (ts : List Triple) (t : Triple) (lo : Kept) (n : ℕ) → Rising m (ts ++ (t ∷ [])) (lo ++ ((t, n) ∷ [])) done → AllLess (kept_rows lo) t → AllLess ts t
    → Rising m ts lo ((t, suc n) ∷ done)
rising_equal {m} {done} ts t lo n R h k = record {
  whole = ap (raise_all ts) (sym (raise_past t lo ((t, n) ∷ done) h ∙ ap (λ (r : Kept). lo ++ r) (raise_first t n done)) ∙ ap (raise t) (sym (append_assoc lo ((t, n) ∷ []) done)))
      ∙ sym (raise_all-snoc ts t (lo ++ ((t, n) ∷ []) ++ done)) ∙ R.whole;
  ahead = k;
}

-- Every kept fact left is lower than the last row: the row enters with support 1.
pub rising-lower : {m : Kept} {done : Kept} (ts : List Triple) (t : Triple) (lo : Kept) → Rising m (ts ++ (t ∷ [])) lo done → AllLess (kept_rows lo) t → AllLess ts t → Rising m ts lo ((t, 1) ∷ done)
rising-lower {m} {done} ts t lo R h k = record {
  whole = ap (raise_all ts) (sym (raise_past t lo done h ∙ ap (λ (r : Kept). lo ++ r) (raise_new t done (before_last ts t done R.ahead))))
      ∙ sym (raise_all-snoc ts t (lo ++ done)) ∙ R.whole;
  ahead = k;
}

-- What is left and what is done fit.
pub rising_room : {m : Kept} {ts : List Triple} {lo done : Kept} → Rising m ts lo done → length lo + length done ≤ length m
rising_room {m} {ts} {lo} {done} R =
    let e : raise_all ts lo ++ done ≡ m = sym (raise_all_front ts lo done R.ahead) ∙ R.whole in
    omega (arith, simp length-append at (ap length e), raise_all-length ts lo)

-- No row is left.
pub rising_end : {m : Kept} {lo done : Kept} → Rising m [] lo done → lo ++ done ≡ m
unfolding raise_all
rising_end R = R.whole

-- ---- how the last row stands to another

pub last_none : (i : ℕ) (ws : List ℕ) (x : Triple) → i ≡ 0 → Ordering.Less ≡ last_ordering i ws x
unfolding last_ordering
last_none zero ws x e = refl
last_none (suc i) ws x e = absurd (omega arith)

pub last_some : (i : ℕ) (ws : List ℕ) (x : Triple) (r : Ordering) → (i ≡ 0 → ⊥) → r ≡ ordering (row_at ws (i - 1)) x → r ≡ last_ordering i ws x
unfolding last_ordering
last_some zero ws x r n e = absurd (n refl)
last_some (suc i) ws x r n e = let q : suc i - 1 ≡ i = omega arith in rw q at e

-- What an ordering says of the last row and x.
abbrev pub LastSays : Ordering → ℕ → List ℕ → Triple → Type 0
LastSays Greater i ws x = (0 < i) × Less x (row_at ws (i - 1))
LastSays Equal i ws x = (0 < i) × (row_at ws (i - 1) ≡ x)
LastSays Ordering.Less i ws x = 0 < i → Less (row_at ws (i - 1)) x

pub last_says : (o : Ordering) (i : ℕ) (ws : List ℕ) (x : Triple) → o ≡ last_ordering i ws x → LastSays o i ws x
unfolding last_ordering
last_says Greater zero ws x e = absurd (let z : ◌≡◌ {A = ℕ} 0 1 = cc in omega arith)
last_says Equal zero ws x e = absurd (let z : ◌≡◌ {A = ℕ} 0 1 = cc in omega arith)
last_says Ordering.Less zero ws x e = λ h. absurd (omega arith)
last_says Greater (suc i) ws x e = let q : suc i - 1 ≡ i = omega arith in (omega arith, rw q (ordering_says (row_at ws i) x Greater e))
last_says Equal (suc i) ws x e = let q : suc i - 1 ≡ i = omega arith in (omega arith, rw q (ordering_says (row_at ws i) x Equal e))
last_says Ordering.Less (suc i) ws x e = let q : suc i - 1 ≡ i = omega arith in λ h. rw q (ordering_says (row_at ws i) x Ordering.Less e)
