-- Laws of ascending lists of triples: `insert`, `remove`, `ascend` and the test. Assumes nothing.
use mathlib.Core.Path.{◌≡◌, refl, sym, ap₂, ◌∙◌}
use mathlib.Core.Bool.{Bool, true, false, ◌&&◌}
use mathlib.Core.List.Memᴰ
use mathlib.Core.List.{List, [], ◌∷◌, Memᴰ}
use mathlib.Core.Logic.{◌⊎◌, inl, inr, ⊎_elim, ◌↔◌}
use Prim.Native.Nat.{suc, ◌≤◌}
use native.Mathlib.Omega.{arith}
use lib.ListN.{length}
use Rattle.spec.specs.declared.Triple.{Triple}
use Rattle.spec.specs.Lists.{select}
use Rattle.spec.specs.Order.{is_less, is_ascending, insert, remove}
use Rattle.spec.specs.computed.Carried.{ascend}
use Rattle.spec.specs.inside.Comparison.{Less, less_irrefl, Trichotomy, less, same, more, compare_triples, Above, Ascending}
use Rattle.spec.proofs.Lists.{cond_elim}
use Rattle.spec.proofs.Order.{less_trans, less_ne}
use Rattle.spec.proofs.Tests.{is_less_true, less-is_less, order_elim, same_elim}

pub above_asc : (t : Triple) (F : List Triple) → Above t F → Ascending F
above_asc t [] a = tt
above_asc t (u ∷ F) a = a.1

pub above_weaken : {t u : Triple} (F : List Triple) → Less t u → Above u F → Above t F
above_weaken [] h a = tt
above_weaken (v ∷ F) h a = (less_trans h a.0, a.1)

-- what stands in a list above t is above t
pub above-member : {t : Triple} (F : List Triple) → Above t F → (u : Triple) → Memᴰ u F → Less t u
above-member [] a u m = absurd (Memᴰ.not-nil m)
above-member {t} (v ∷ F) a u m = ⊎_elim (λ (e : u ≡ v). rw e a.0) (λ j. less_trans a.0 (above-member F a.1 u j)) (Memᴰ.cases_cons m)

-- ---- insert

above-insert : {v : Triple} (t : Triple) (F : List Triple) → Less v t → Above v F → Above v (insert t F)
unfolding insert
above-insert t [] h a = (h, tt)
above-insert {v} t (u ∷ F) h a = order_elim (Above v) t u (λ l. (h, (l, a.1))) (λ _. a) (λ l. (a.0, above-insert t F l a.1))

pub insert_asc : (t : Triple) (F : List Triple) → Ascending F → Ascending (insert t F)
unfolding insert
insert_asc t [] a = tt
insert_asc t (u ∷ F) a = order_elim Ascending t u (λ l. (l, a)) (λ _. a) (λ l. above-insert t F l a)

pub insert_old : {u : Triple} (t : Triple) (F : List Triple) → Memᴰ u F → Memᴰ u (insert t F)
unfolding insert
insert_old t [] m = Memᴰ.tail m
insert_old {u} t (v ∷ F) m =
    order_elim (Memᴰ u) t v (λ _. Memᴰ.tail m) (λ _. m)
    (λ _. ⊎_elim Memᴰ.head (λ j. Memᴰ.tail (insert_old t F j)) (Memᴰ.cases_cons m))

pub insert_new : (t : Triple) (F : List Triple) → Memᴰ t (insert t F)
unfolding insert
insert_new t [] = Memᴰ.head refl
insert_new t (v ∷ F) = order_elim (Memᴰ t) t v (λ _. Memᴰ.head refl) Memᴰ.head (λ _. Memᴰ.tail (insert_new t F))

pub insert_cases : {u : Triple} (t : Triple) (F : List Triple) → Memᴰ u (insert t F) → (u ≡ t) ⊎ Memᴰ u F
unfolding insert
insert_cases t [] = Memᴰ.cases_cons
insert_cases {u} t (v ∷ F) =
    order_elim (λ (r : List Triple). Memᴰ u r → (u ≡ t) ⊎ Memᴰ u (v ∷ F)) t v (λ _. Memᴰ.cases_cons) (λ _. inr)
    (λ _ j. ⊎_elim (λ e. inr (Memᴰ.head e)) (λ i. ⊎_elim inl (λ z. inr (Memᴰ.tail z)) (insert_cases t F i)) (Memᴰ.cases_cons j))

pub insert-length : (t : Triple) (F : List Triple) → length (insert t F) ≤ suc (length F)
unfolding insert
insert-length t [] = omega arith
insert-length t (v ∷ F) = order_elim (λ (r : List Triple). length r ≤ suc (suc (length F))) t v (λ _. omega arith) (λ _. omega arith) (λ _. omega (arith, insert-length t F))

-- ---- remove

above-remove : (v t : Triple) (F : List Triple) → Above v F → Above v (remove t F)
unfolding remove
above-remove v t [] a = tt
above-remove v t (u ∷ F) a = same_elim (Above v) t u (λ _. above_weaken F a.0 a.1) (λ _. (a.0, above-remove u t F a.1))

pub remove_asc : (t : Triple) (F : List Triple) → Ascending F → Ascending (remove t F)
unfolding remove
remove_asc t [] a = tt
remove_asc t (u ∷ F) a = same_elim Ascending t u (λ _. above_asc u F a) (λ _. above-remove u t F a)

pub remove_sub : {u : Triple} (t : Triple) (F : List Triple) → Memᴰ u (remove t F) → Memᴰ u F
unfolding remove
remove_sub t [] = λ m. m
remove_sub {u} t (v ∷ F) =
    same_elim (λ (r : List Triple). Memᴰ u r → Memᴰ u (v ∷ F)) t v (λ _. Memᴰ.tail)
    (λ _ j. ⊎_elim Memᴰ.head (λ i. Memᴰ.tail (remove_sub t F i)) (Memᴰ.cases_cons j))

pub remove_keeps : {u : Triple} (t : Triple) (F : List Triple) → ¬ (u ≡ t) → Memᴰ u F → Memᴰ u (remove t F)
unfolding remove
remove_keeps t [] n m = m
remove_keeps {u} t (v ∷ F) n m =
    same_elim (Memᴰ u) t v
    (λ q. ⊎_elim (λ e. absurd (n (e ∙ sym q))) (λ j. j) (Memᴰ.cases_cons m))
    (λ _. ⊎_elim Memᴰ.head (λ j. Memᴰ.tail (remove_keeps t F n j)) (Memᴰ.cases_cons m))

pub remove_gone : (t : Triple) (F : List Triple) → Ascending F → ¬ Memᴰ t (remove t F)
unfolding remove
remove_gone t [] a = Memᴰ.not-nil
remove_gone t (v ∷ F) a =
    same_elim (λ (r : List Triple). ¬ Memᴰ t r) t v
    (λ q j. less_irrefl (rw q at (above-member F a t j)))
    (λ n j. ⊎_elim n (remove_gone t F (above_asc v F a)) (Memᴰ.cases_cons j))

pub remove-length : (t : Triple) (F : List Triple) → length (remove t F) ≤ length F
unfolding remove
remove-length t [] = omega arith
remove-length t (v ∷ F) = same_elim (λ (r : List Triple). length r ≤ suc (length F)) t v (λ _. omega arith) (λ _. omega (arith, remove-length t F))

-- ---- those that pass a test, in their order

above_select : (test : Triple → Bool) (v : Triple) (F : List Triple) → Above v F → Above v (select test F)
unfolding select
above_select test v [] a = tt
above_select test v (u ∷ F) a = cond_elim (Above v) (test u) (λ _. (a.0, above_select test u F a.1)) (λ _. above_select test v F (above_weaken F a.0 a.1))

pub select_asc : (test : Triple → Bool) (F : List Triple) → Ascending F → Ascending (select test F)
unfolding select
select_asc test [] a = tt
select_asc test (u ∷ F) a = cond_elim Ascending (test u) (λ _. above_select test u F a) (λ _. select_asc test F (above_asc u F a))

-- ---- ascend: the same members, ascending

pub ascend_asc : (ts : List Triple) → Ascending (ascend ts)
unfolding ascend
ascend_asc [] = tt
ascend_asc (t ∷ ts) = insert_asc t (ascend ts) (ascend_asc ts)

pub ascend_in : {u : Triple} (ts : List Triple) → Memᴰ u ts → Memᴰ u (ascend ts)
unfolding ascend
ascend_in [] m = absurd (Memᴰ.not-nil m)
ascend_in {u} (t ∷ ts) m = ⊎_elim (λ (e : u ≡ t). Memᴰ.cast e (insert_new t (ascend ts))) (λ j. insert_old t (ascend ts) (ascend_in ts j)) (Memᴰ.cases_cons m)

pub ascend_out : {u : Triple} (ts : List Triple) → Memᴰ u (ascend ts) → Memᴰ u ts
unfolding ascend
ascend_out [] m = m
ascend_out (t ∷ ts) m = ⊎_elim Memᴰ.head (λ j. Memᴰ.tail (ascend_out ts j)) (insert_cases t (ascend ts) m)

-- ---- ascending lists are equal where their members are

-- A member of an ascending list that is not its first is above the first.
pub member_above : {u v : Triple} (F : List Triple) → Above v F → Memᴰ u (v ∷ F) → ¬ (u ≡ v) → Less v u
member_above {u} F a m n = ⊎_elim (λ e. absurd (n e)) (above-member F a u) (Memᴰ.cases_cons m)

pub ascending_ext : (F G : List Triple) → Ascending F → Ascending G → ((u : Triple) → Memᴰ u F ↔ Memᴰ u G) → F ≡ G
ascending_ext [] [] a b h = refl
ascending_ext [] (v ∷ G) a b h = absurd (Memᴰ.not-nil ((h v).1 (Memᴰ.head refl)))
ascending_ext (u ∷ F) [] a b h = absurd (Memᴰ.not-nil ((h u).0 (Memᴰ.head refl)))
ascending_ext (u ∷ F) (v ∷ G) a b h = go (ascending_ext F G (above_asc u F a) (above_asc v G b)) (compare_triples u v)
  where
    other : u ≡ v → (w : Triple) → Memᴰ w F ↔ Memᴰ w G
    other e w = (
      λ m. ⊎_elim (λ (q : w ≡ v). absurd (less_ne (above-member F a w m) (e ∙ sym q))) (λ j. j) (Memᴰ.cases_cons ((h w).0 (Memᴰ.tail m))),
      λ m. ⊎_elim (λ (q : w ≡ u). absurd (less_ne (above-member G b w m) (sym e ∙ sym q))) (λ j. j) (Memᴰ.cases_cons ((h w).1 (Memᴰ.tail m))),
    )

    go : (((w : Triple) → Memᴰ w F ↔ Memᴰ w G) → F ≡ G) → Trichotomy u v → ◌≡◌ {A = List Triple} (u ∷ F) (v ∷ G)
    go r (less l) = absurd (less_irrefl (less_trans l (member_above G b ((h u).0 (Memᴰ.head refl)) (less_ne l))))
    go r (same e) = ap₂ ◌∷◌ e (r (other e))
    go r (more l) = absurd (less_irrefl (less_trans l (member_above F a ((h v).1 (Memᴰ.head refl)) (less_ne l))))

-- ---- the test

-- A conjunction that is true is true on both sides.
pub and_left : (a b : Bool) → (a && b) ≡ true → a ≡ true
and_left true b e = refl
and_left false b e = e

pub and_right : (a b : Bool) → (a && b) ≡ true → b ≡ true
and_right true b e = e
and_right false b e = cc

-- The test decides exactly whether a list ascends.
above_is : (t : Triple) (F : List Triple) → (is_ascending (t ∷ F) ≡ true) ↔ Above t F
unfolding is_ascending
above_is t [] = (λ _. tt, λ _. refl)
above_is t (u ∷ F) = (
  λ e. (is_less_true t u (and_left _ _ e), (above_is u F).0 (and_right (is_less t u) _ e)),
  λ a. rw (less-is_less a.0) ((above_is u F).1 a.1),
)

pub is_ascending_iff : (F : List Triple) → (is_ascending F ≡ true) ↔ Ascending F
unfolding is_ascending
is_ascending_iff [] = (λ _. tt, λ _. refl)
is_ascending_iff (t ∷ F) = above_is t F
