-- The kept facts and their supports, computed. Nobody has to read it: `FollowsAsFact` of specs/Rules.antt and `Supported` of specs/Demand3.antt say
-- what they are.
-- Fixed by saturation_is (proofs/Computed.antt): its rows ascend and are exactly the facts that follow, and each support is the number of the
-- facts that carry the row.
use Rattle.std.specs.Prelude.{List, [], ◌∷◌}
use Rattle.spec.specs.declared.Triple.{Triple}
use Rattle.spec.specs.Saturation.{Kept, raise_all}
use Rattle.spec.specs.computed.Carried.{carried}

-- The saturation: the kept facts and supports worked out afresh from the statements S and the facts F.
unfoldable pub saturation : List Triple → List Triple → Kept
saturation S [] = []
saturation S (f ∷ F) = raise_all (carried S f) (saturation S F)
