-- Lists without repeats, and their lengths. Assumes nothing.
use mathlib.Core.Path.{◌≡◌, refl, sym, ap, ◌∙◌}
use mathlib.Core.List.Memᴰ
use mathlib.Core.List.{List, [], ◌∷◌, Memᴰ}
use mathlib.Core.Logic.{⊎_elim}
use Prim.Native.Nat.{suc, ◌≤◌}
use native.Mathlib.Omega.{arith}
use lib.ListN.{length}
use Rattle.spec.specs.declared.Triple.{Triple}
use Rattle.spec.specs.inside.Comparison.{Ascending, less_irrefl}
use Rattle.spec.proofs.Ascending.{above_asc, above-member}

-- No element stands twice.
abbrev pub Distinct : {A : Type 0} → List A → Type 0
Distinct [] = Unit {0}
Distinct (x ∷ l) = (¬ Memᴰ x l) × Distinct l

-- ---- a list without repeats is not longer than a list that has all its members

-- ys with one place of x taken out.
record Without {A : Type 0} (x : A) (ys : List A) : Type 0 where
  left : List A
  shorter : length ys ≡ suc (length left)
  others : (y : A) → Memᴰ y ys → ¬ (y ≡ x) → Memᴰ y left

-- A member can be taken out.
without : {A : Type 0} {x : A} (ys : List A) → Memᴰ x ys → Without x ys
without [] m = absurd (Memᴰ.not-nil m)
without {A} {x} (z ∷ ys) m =
    ⊎_elim
    (λ (e : x ≡ z). record { left = ys; shorter = refl; others = λ y j n. ⊎_elim (λ q. absurd (n (q ∙ sym e))) (λ k. k) (Memᴰ.cases_cons j) })
    (λ i. let r = without ys i in
    record { left = z ∷ r.left; shorter = ap suc r.shorter; others = λ y j n. ⊎_elim Memᴰ.head (λ k. Memᴰ.tail (r.others y k n)) (Memᴰ.cases_cons j) })
    (Memᴰ.cases_cons m)

-- The members of xs, each once, lie in ys: xs is not longer.
pub distinct-length : {A : Type 0} (xs ys : List A) → Distinct xs → ((x : A) → Memᴰ x xs → Memᴰ x ys) → length xs ≤ length ys
distinct-length [] ys d h = omega arith
distinct-length (x ∷ xs) ys d h =
    let r = without ys (h x (Memᴰ.head refl)) in
    omega (arith, r.shorter, distinct-length xs r.left d.1 (λ y m. r.others y (h y (Memᴰ.tail m)) (λ e. d.0 (Memᴰ.cast (sym e) m))))

-- An ascending list has no repeats.
pub ascending-distinct : (F : List Triple) → Ascending F → Distinct F
ascending-distinct [] a = tt
ascending-distinct (t ∷ F) a = (λ m. less_irrefl (above-member F a t m), ascending-distinct F (above_asc t F a))
