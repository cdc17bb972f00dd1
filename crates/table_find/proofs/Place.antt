-- Where a row stands in ascending rows. Assumes nothing.
use Prim.Native.Nat.{ℕ, zero, suc, ◌≤◌, ◌<◌}
use mathlib.Core.Path.{◌≡◌, refl, sym}
use mathlib.Core.List.Memᴰ
use mathlib.Core.List.{List, [], ◌∷◌, Memᴰ}
use native.Mathlib.Decide.{dec_lt}
use native.Mathlib.Omega.{arith}
use lib.ListN.{length, get_or}
use Rattle.std.specs.Prelude.{Result, Ok, Err}
use Rattle.std.specs.Ordering.{nat_cmp}
use Rattle.std.specs.declared.cmp.Ordering.{Ordering}
use Rattle.std.specs.declared.cmp.Ordering.TheVariants.{Equal, Greater}
use Rattle.std.proofs.lemmas.Cmp.{ranked, by_ranked}
use Rattle.spec.specs.declared.Triple.{Triple}
use Rattle.spec.specs.inside.Comparison.{Less, by_subject, by_property, by_object, triple_eq, compare_triples, Ascending}
use Rattle.spec.proofs.Order.{less_trans, less_ne, by_order_elim, by_order-less, by_order_same, by_order_more}
use Rattle.spec.proofs.Ascending.{above_asc}
use Rattle.table_find.specs.inside.Search.{ordering, next, place}
use Rattle.table_find.specs.inside.Search.{Says}
use Rattle.table.proofs.Place.{above-get_or, get_or-member, member-get_or}

-- What an ordering says of two triples.
abbrev pub SaysOf : Ordering → Triple → Triple → Type 0
SaysOf Ordering.Less t u = Less t u
SaysOf Equal t u = t ≡ u
SaysOf Greater t u = Less u t

pub ordering_says : (t u : Triple) (o : Ordering) → o ≡ ordering t u → SaysOf o t u
ordering_says t u o e = rw e (by_order_elim (λ (o : Ordering). SaysOf o t u) (compare_triples t u) (λ h. h) (λ h. h) (λ h. h))

pub says-ordering : (t u : Triple) (o : Ordering) → SaysOf o t u → o ≡ ordering t u
says-ordering t u Ordering.Less h = sym (by_order-less (compare_triples t u) Ordering.Less Equal Greater h)
says-ordering t u Equal h = sym (by_order_same (compare_triples t u) Ordering.Less Equal Greater h)
says-ordering t u Greater h = sym (by_order_more (compare_triples t u) Ordering.Less Equal Greater h)

-- What `cmp` says of two words.
pub cmp_says : (a b : ℕ) (o : Ordering) → o ≡ nat_cmp a b → Says o a b
cmp_says a b o e = by_ranked (a < b) (a ≡ b) (b < a) o (ranked a b o e) (λ r h. rw r h) (λ r h. rw r h) (λ r h. rw r h)

-- Where the subjects differ, they decide.
pub by_subjects : (t u : Triple) (o : Ordering) → ¬ (o ≡ Equal) → Says o t.subject u.subject → SaysOf o t u
by_subjects t u Ordering.Less n h = by_subject h
by_subjects t u Equal n h = absurd (n refl)
by_subjects t u Greater n h = by_subject h

-- Where the subjects are equal and the properties differ, the properties decide.
pub by_properties : (t u : Triple) (o : Ordering) → ¬ (o ≡ Equal) → t.subject ≡ u.subject → Says o t.property u.property → SaysOf o t u
by_properties t u Ordering.Less n a h = by_property a h
by_properties t u Equal n a h = absurd (n refl)
by_properties t u Greater n a h = by_property (sym a) h

-- Where subjects and properties are equal, the objects decide.
pub by_objects : (t u : Triple) (o : Ordering) → t.subject ≡ u.subject → t.property ≡ u.property → Says o t.object u.object → SaysOf o t u
by_objects t u Ordering.Less a b h = by_object a b h
by_objects t u Equal a b h = triple_eq t u a b h
by_objects t u Greater a b h = by_object (sym a) (sym b) h

-- The place of a row from what stands before and behind it.
pub place_at_lem : (x : Triple) (us : List Triple) (d : Triple) (i : ℕ) → i < length us → ((k : ℕ) → k < i → Less (get_or us k d) x) → get_or us i d ≡ x → place x us ≡ Ok i
unfolding place
place_at_lem x [] d i h l e = absurd (omega arith)
place_at_lem x (u ∷ us) d zero h l e = by_order_same (compare_triples u x) _ _ _ e
place_at_lem x (u ∷ us) d (suc i) h l e =
    rw (place_at_lem x us d i (omega arith) (λ k q. l (suc k) (omega arith)) e) (by_order-less (compare_triples u x) _ _ _ (l 0 (omega arith)))

pub place_gap : (x : Triple) (us : List Triple) (d : Triple) (i : ℕ) → i ≤ length us → ((k : ℕ) → k < i → Less (get_or us k d) x) → (i < length us → Less x (get_or us i d)) → place x us ≡ Err i
unfolding place
place_gap x [] d zero h l g = refl
place_gap x [] d (suc i) h l g = absurd (omega arith)
place_gap x (u ∷ us) d zero h l g = by_order_more (compare_triples u x) _ _ _ (g (omega arith))
place_gap x (u ∷ us) d (suc i) h l g =
    rw (place_gap x us d i (omega arith) (λ k q. l (suc k) (omega arith)) (λ q. g (omega arith))) (by_order-less (compare_triples u x) _ _ _ (l 0 (omega arith)))

-- ---- what a place says

-- x stands at i, and every row before it is less.
pub record StandsAt (x : Triple) (us : List Triple) (i : ℕ) : Type 0 where
  pub within : i < length us
  pub is : (d : Triple) → get_or us i d ≡ x
  pub below : (k : ℕ) (d : Triple) → k < i → Less (get_or us k d) x

-- x is missing at the gap i: every row before it is less and, in ascending rows, every other is more.
pub record MissingAt (x : Triple) (us : List Triple) (i : ℕ) : Type 0 where
  pub within : i ≤ length us
  pub below : (k : ℕ) (d : Triple) → k < i → Less (get_or us k d) x
  pub above : Ascending us → (k : ℕ) (d : Triple) → i ≤ k → k < length us → Less x (get_or us k d)

abbrev Placed : Triple → List Triple → Result ℕ ℕ → Type 0
Placed x us (Ok i) = StandsAt x us i
Placed x us (Err i) = MissingAt x us i

-- What holds of the first row and of each later one.
from_first : (P : ℕ → Type 0) → P 0 → ((k : ℕ) → P (suc k)) → (k : ℕ) → P k
from_first P z s zero = z
from_first P z s (suc k) = s k

placed-next : (x u : Triple) (us : List Triple) → Less u x → (f : Result ℕ ℕ) → Placed x us f → Placed x (u ∷ us) (next f)
placed-next x u us l (Ok i) p = record {
  within = omega (arith, p.within);
  is = p.is;
  below = from_first (λ k. (d : Triple) → k < suc i → Less (get_or (u ∷ us) k d) x) (λ d h. l) (λ k d h. p.below k d (omega arith));
}
placed-next x u us l (Err i) p = record {
  within = omega (arith, p.within);
  below = from_first (λ k. (d : Triple) → k < suc i → Less (get_or (u ∷ us) k d) x) (λ d h. l) (λ k d h. p.below k d (omega arith));
  above = λ a. from_first (λ k. (d : Triple) → suc i ≤ k → k < suc (length us) → Less x (get_or (u ∷ us) k d)) (λ d h. absurd (omega arith)) (λ k d h q. p.above (above_asc u us a) k d (omega arith) (omega arith));
}

placed : (x : Triple) (us : List Triple) → Placed x us (place x us)
unfolding place
placed x [] = record { within = omega arith; below = λ k d h. absurd (omega arith); above = λ a k d h q. absurd (omega arith) }
placed x (u ∷ us) =
    by_order_elim (Placed x (u ∷ us)) (compare_triples u x) (λ l. placed-next x u us l (place x us) (placed x us))
    (λ e. record { within = omega arith; is = λ d. e; below = λ k d h. absurd (omega arith) })
    (λ l. record { within = omega arith; below = λ k d h. absurd (omega arith); above = λ a. from_first (λ k. (d : Triple) → 0 ≤ k → k < suc (length us) → Less x (get_or (u ∷ us) k d)) (λ d h q. l) (λ k d h q. less_trans l (above-get_or u us d a k (omega arith))) })

pub stands_at : (x : Triple) (us : List Triple) (i : ℕ) → place x us ≡ Ok i → StandsAt x us i
stands_at x us i e = rw e at (placed x us)

pub missing_at : (x : Triple) (us : List Triple) (i : ℕ) → place x us ≡ Err i → MissingAt x us i
missing_at x us i e = rw e at (placed x us)

-- ---- members

pub at_member : (x : Triple) (us : List Triple) (i : ℕ) → place x us ≡ Ok i → Memᴰ x us
at_member x us i e = let S = stands_at x us i e in Memᴰ.cast (sym (S.is x)) (get_or-member us i x S.within)

pub gap_absent : (x : Triple) (us : List Triple) (i : ℕ) → Ascending us → place x us ≡ Err i → ¬ Memᴰ x us
gap_absent x us i a e m = go (dec_lt r.0 i)
  where
    M : MissingAt x us i
    M = missing_at x us i e

    r : (k : ℕ) × (k < length us) × ((d : Triple) → get_or us k d ≡ x)
    r = member-get_or us m

    go : Dec (r.0 < i) → ⊥
    go (yes h) = less_ne (M.below r.0 x h) (r.2 x)
    go (no h) = less_ne (M.above a r.0 x (omega arith) r.1) (sym (r.2 x))

-- A member of ascending rows has a place.
pub member-at : (x : Triple) (us : List Triple) → Ascending us → Memᴰ x us → (i : ℕ) × (place x us ≡ Ok i)
member-at x us a m = go (place x us) refl
  where
    go : (f : Result ℕ ℕ) → place x us ≡ f → (i : ℕ) × (place x us ≡ Ok i)
    go (Ok i) e = (i, e)
    go (Err i) e = absurd (gap_absent x us i a e m)

pub absent_gap : (x : Triple) (us : List Triple) → ¬ Memᴰ x us → (i : ℕ) × (place x us ≡ Err i)
absent_gap x us n = go (place x us) refl
  where
    go : (f : Result ℕ ℕ) → place x us ≡ f → (i : ℕ) × (place x us ≡ Err i)
    go (Ok i) e = absurd (n (at_member x us i e))
    go (Err i) e = (i, e)
