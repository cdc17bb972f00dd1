-- Closed statements by computation: a chain, a loop, a diamond, and steps that do not mix. Assumes nothing.
use mathlib.Core.Path.{◌≡◌, refl}
use mathlib.Core.List.{List, [], ◌∷◌, flat_map}
use Rattle.spec.specs.declared.Triple.{Triple}
use Rattle.spec.specs.Terms.{triple}
use Rattle.spec.specs.Lists.{any, select}
use Rattle.spec.specs.Rows.{less}
use Rattle.spec.specs.Order.{is_same, insert}
use Rattle.spec.specs.computed.Carried.{leaves, objects, steps, spread, ascend}
use Rattle.spec.specs.computed.Closed.{pairs_from, pairs, closed}

-- The definitions that these need to compute, by one name.
unfoldable compute : Unit {0}
unfolding flat_map any select less is_same insert leaves objects steps spread ascend pairs_from pairs closed
compute = tt

-- The pairs of a chain,
pub chain-pairs : pairs (triple 16 2 17 ∷ triple 17 2 18 ∷ []) 2 ≡ triple 16 2 17 ∷ triple 16 2 18 ∷ triple 16 2 18 ∷ triple 17 2 18 ∷ []
unfolding compute
chain-pairs = refl

-- and the chain closed, as a set.
pub chain : ascend (closed (triple 16 2 17 ∷ triple 17 2 18 ∷ [])) ≡ triple 16 2 17 ∷ triple 16 2 18 ∷ triple 17 2 18 ∷ []
unfolding compute
chain = refl

-- On a loop each class is below each, itself included.
pub loop : ascend (closed (triple 16 2 17 ∷ triple 17 2 16 ∷ [])) ≡ triple 16 2 16 ∷ triple 16 2 17 ∷ triple 17 2 16 ∷ triple 17 2 17 ∷ []
unfolding compute
loop = refl

-- A diamond, of subproperties: both ways to its end give one statement.
pub diamond : ascend (closed (triple 16 3 17 ∷ triple 16 3 18 ∷ triple 17 3 19 ∷ triple 18 3 19 ∷ []))
    ≡ triple 16 3 17 ∷ triple 16 3 18 ∷ triple 16 3 19 ∷ triple 17 3 19 ∷ triple 18 3 19 ∷ []
unfolding compute
diamond = refl

-- Steps of subclasses and of subproperties do not mix, nor does a domain go up.
pub apart : ascend (closed (triple 16 2 17 ∷ triple 17 3 18 ∷ triple 18 4 16 ∷ [])) ≡ triple 16 2 17 ∷ triple 17 3 18 ∷ triple 18 4 16 ∷ []
unfolding compute
apart = refl
