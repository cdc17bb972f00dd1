-- The part of a list of kept facts that stands between two rows. Definitions only.
use Rattle.std.specs.Prelude.{[], ◌∷◌}
use Rattle.std.proofs.Math.Logic.Dec
use Rattle.spec.specs.declared.Triple.{Triple}
use Rattle.spec.specs.inside.Comparison.{Less, less, same, more, compare_triples, choose}
use Rattle.spec.proofs.Order.{less_ne, less_asym}
use Rattle.spec.specs.Saturation.{Kept}

-- Whether t is less than u.
unfoldable pub less_than : (t u : Triple) → Dec (Less t u)
unfolding compare_triples
less_than t u = elim (compare_triples t u) [ less h ↦ yes h | same e ↦ no (λ h. less_ne h e) | more k ↦ no (λ h. less_asym h k) ]

-- t stands from b on and below c.
abbrev pub Within : Triple → Triple → Triple → Type 0
Within b c t = (¬ Less t b) × Less t c

-- Whether it does.
unfoldable pub within : (b c t : Triple) → Dec (Within b c t)
within b c t = Dec.and (Dec.not (less_than t b)) (less_than t c)

-- The rows from b on that stand below c, with their supports.
unfoldable pub between : Triple → Triple → Kept → Kept
between b c [] = []
between b c (e ∷ k) = choose (within b c e.0) (e ∷ between b c k) (between b c k)
