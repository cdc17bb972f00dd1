-- What a list of kept facts must be: ascending, every support at least 1; and the support of a row among them. Definitions only.
use Rattle.std.specs.Prelude.{cond, [], ◌∷◌, ℕ, ◌<◌}
use Rattle.spec.specs.declared.Triple.{Triple}
use Rattle.spec.specs.Order.{is_same}
use Rattle.spec.specs.inside.Comparison.{Less}
use Rattle.spec.specs.Saturation.{Kept}

-- The kept facts ascend from t on, and each support is at least 1.
abbrev pub KeptAbove : Triple → Kept → Type 0
KeptAbove t [] = Unit {0}
KeptAbove t (e ∷ k) = Less t e.0 × (0 < e.1) × KeptAbove e.0 k

-- The kept facts ascend, and each support is at least 1.
abbrev pub Counts : Kept → Type 0
Counts [] = Unit {0}
Counts (e ∷ k) = (0 < e.1) × KeptAbove e.0 k

-- The support of t among kept facts, 0 where t is not kept.
unfoldable pub lookup : Kept → Triple → ℕ
lookup [] t = 0
lookup (e ∷ k) t = cond (is_same t e.0) e.1 (lookup k t)
