-- The columns that the code works out are those of the formula. Assumes nothing.
use Prim.Native.Nat.{ℕ, zero, suc, ◌-◌, ◌/◌, ◌%◌, ◌≤◌}
use mathlib.Core.Path.{◌≡◌, refl}
use mathlib.Core.List.{List, [], ◌∷◌}
use native.Mathlib.Omega.{arith}
use lib.ListN.{length, get_or}
use borrow.Author.Tests.{eq-eqb, ne_eqb}
use Rattle.spec.specs.Lists.{select}
use Rattle.spec.specs.Listings.{others, column_order}

-- The two columns beside one.
pub others_are : (c : ℕ) → c ≤ 2 → (2 - c) / 2 ∷ (3 - c - (2 - c) / 2) ∷ [] ≡ others c
unfolding others select
others_are zero h = refl
others_are (suc zero) h = refl
others_are (suc (suc zero)) h = refl
others_are (suc (suc (suc c))) h = absurd (omega arith)

-- An even order has the other two as they are.
pub even_order : (k : ℕ) (r : List ℕ) → r ≡ others (k / 2) → length r ≡ 2 → k % 2 ≡ 0 → k / 2 ∷ get_or r 0 0 ∷ get_or r 1 0 ∷ [] ≡ column_order k
unfolding column_order
even_order k (a ∷ b ∷ []) e l h = rw (eq-eqb (k % 2) 0 h, ← e) refl
even_order k [] e l h = absurd (omega arith)
even_order k (a ∷ []) e l h = absurd (omega arith)
even_order k (a ∷ b ∷ c ∷ r) e l h = absurd (omega arith)

-- An odd order has them reversed.
pub odd_order : (k : ℕ) (r : List ℕ) → r ≡ others (k / 2) → length r ≡ 2 → (k % 2 ≡ 0 → ⊥) → k / 2 ∷ get_or r 1 0 ∷ get_or r 0 0 ∷ [] ≡ column_order k
unfolding column_order
odd_order k (a ∷ b ∷ []) e l h = rw (ne_eqb (k % 2) 0 h, ← e) refl
odd_order k [] e l h = absurd (omega arith)
odd_order k (a ∷ []) e l h = absurd (omega arith)
odd_order k (a ∷ b ∷ c ∷ r) e l h = absurd (omega arith)
