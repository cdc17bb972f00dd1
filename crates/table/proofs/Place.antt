-- Rows that ascend, and the members of rows by their places. Assumes nothing.
use Prim.Native.Nat.{ℕ, zero, suc, ◌<◌}
use mathlib.Core.Path.{◌≡◌, refl, sym}
use mathlib.Core.Logic.{⊎_elim}
use mathlib.Core.List.Memᴰ
use mathlib.Core.List.{List, [], ◌∷◌, Memᴰ}
use native.Mathlib.Omega.{arith}
use lib.ListN.{length, get_or}
use Rattle.spec.specs.declared.Triple.{Triple}
use Rattle.spec.specs.inside.Comparison.{Less, Above, Ascending}
use Rattle.spec.proofs.Order.{less_trans}
use Rattle.spec.proofs.Ascending.{above_asc}

-- In ascending rows each is less than each later one.
pub above-get_or : (t : Triple) (us : List Triple) (d : Triple) → Above t us → (j : ℕ) → j < length us → Less t (get_or us j d)
above-get_or t [] d a j h = absurd (omega arith)
above-get_or t (u ∷ us) d a zero h = a.0
above-get_or t (u ∷ us) d a (suc j) h = less_trans a.0 (above-get_or u us d a.1 j (omega arith))

pub ascending-get_or : (us : List Triple) (d : Triple) → Ascending us → (i j : ℕ) → i < j → j < length us → Less (get_or us i d) (get_or us j d)
ascending-get_or [] d a i j h k = absurd (omega arith)
ascending-get_or (u ∷ us) d a i zero h k = absurd (omega arith)
ascending-get_or (u ∷ us) d a zero (suc j) h k = above-get_or u us d a j (omega arith)
ascending-get_or (u ∷ us) d a (suc i) (suc j) h k = ascending-get_or us d (above_asc u us a) i j (omega arith) (omega arith)

-- What stands at a place is a member, and each member stands at one.
pub get_or-member : (us : List Triple) (i : ℕ) (d : Triple) → i < length us → Memᴰ (get_or us i d) us
get_or-member [] i d h = absurd (omega arith)
get_or-member (u ∷ us) zero d h = Memᴰ.head refl
get_or-member (u ∷ us) (suc i) d h = Memᴰ.tail (get_or-member us i d (omega arith))

pub member-get_or : {x : Triple} (us : List Triple) → Memᴰ x us → (i : ℕ) × (i < length us) × ((d : Triple) → get_or us i d ≡ x)
member-get_or [] m = absurd (Memᴰ.not-nil m)
member-get_or {x} (u ∷ us) m =
    ⊎_elim (λ (e : x ≡ u). (0, omega arith, λ d. sym e)) (λ j. let r = member-get_or {x = x} us j in (suc r.0, omega (arith, r.1), r.2)) (Memᴰ.cases_cons m)
