-- The columns of a property. Assumes nothing.
use mathlib.Core.Path.{◌≡◌}
use mathlib.Core.List.{List}
use mathlib.Core.Logic.{by_cases}
use Prim.Native.Nat.{ℕ, ◌≤◌}
use native.Mathlib.Omega.{arith}
use native.Mathlib.Decide.{ℕ_discrete}
use borrow.Author.Tests.{eq-eqb, ne_eqb}
use Rattle.closure_words.specs.inside.Layout.{classes_of, columns_of, first_column, end_column, Shaped}

pub first_class : (ws : List ℕ) (k : ℕ) → k ≡ 2 → 0 ≡ first_column ws k
unfolding first_column
first_class ws k e = rw (eq-eqb k 2 e)

pub first_other : (ws : List ℕ) (k : ℕ) → ¬ (k ≡ 2) → classes_of ws ≡ first_column ws k
unfolding first_column
first_other ws k n = rw (ne_eqb k 2 n)

pub end_class : (ws : List ℕ) (k : ℕ) → k ≡ 2 → classes_of ws ≡ end_column ws k
unfolding end_column
end_class ws k e = rw (eq-eqb k 2 e)

pub end_other : (ws : List ℕ) (k : ℕ) → ¬ (k ≡ 2) → columns_of ws ≡ end_column ws k
unfolding end_column
end_other ws k n = rw (ne_eqb k 2 n)

-- How the columns of a property stand.
pub record Stand (ws : List ℕ) (k : ℕ) : Type 0 where
  pub ordered : first_column ws k ≤ end_column ws k
  pub within : end_column ws k ≤ columns_of ws
  pub few : end_column ws k ≤ 512

-- They stand so.
pub stand : (ws : List ℕ) (k : ℕ) → Shaped ws → Stand ws k
stand ws k s =
    by_cases (ℕ_discrete k 2)
    (λ e. record { ordered = omega (arith, first_class ws k e); within = omega (arith, end_class ws k e, s.classes); few = omega (arith, end_class ws k e, s.classes, s.few) })
    (λ n. record { ordered = omega (arith, first_other ws k n, end_other ws k n, s.classes); within = omega (arith, end_other ws k n); few = omega (arith, end_other ws k n, s.few) })
