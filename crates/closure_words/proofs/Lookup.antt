-- What the bits of a statement say. Assumes nothing.
use mathlib.Core.Path.{◌≡◌, sym, subst}
use mathlib.Core.List.{List}
use Prim.Native.Nat.{ℕ, ◌<◌}
use native.Mathlib.Omega.{arith}
use Rattle.closure_words.specs.inside.Layout.{term_at, bit_at, end_column, IsColumn}
use Rattle.closure_words.specs.inside.Closure.{LeadsTo, IsStated, IsClosure}
use Rattle.closure_words.proofs.Columns.{stand}

-- A column that is there has a bit that says whether the subject leads to its term.
module _ (st ws : List ℕ) (i k : ℕ) (h : IsClosure st ws) (s : IsStated st i k) where
  pub leads_of : (c b : ℕ) → c < end_column ws k → term_at ws c ≡ b → bit_at ws i c ≡ 1 → LeadsTo st i b
  leads_of c b l e q = subst (LeadsTo st i) e ((h.bits i k c s (omega (arith, (stand ws k h.shape).within))).0 q).1

  pub bit_of_lem : (c b : ℕ) → IsColumn ws k c → term_at ws c ≡ b → LeadsTo st i b → bit_at ws i c ≡ 1
  bit_of_lem c b d e p = (h.bits i k c s (omega (arith, d.below, (stand ws k h.shape).within))).1 (d, subst (LeadsTo st i) (sym e) p)
