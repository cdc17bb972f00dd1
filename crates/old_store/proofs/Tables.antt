-- Four tables as one. Assumes nothing.
use Prim.Native.Nat.{ℕ}
use mathlib.Core.Path.{◌≡◌}
use mathlib.Core.List.{List}
use Rattle.spec.specs.Tables.{tables}

-- Tables are equal where each is.
pub tables_eq
    : {S F K U S₁ F₁ K₁ U₁ : List ℕ} → S ≡ S₁ → F ≡ F₁ → K ≡ K₁ → U ≡ U₁ → tables S F K U ≡ tables S₁ F₁ K₁ U₁
tables_eq a b c d i = tables (a i) (b i) (c i) (d i)
