-- The statements closed, computed. Nobody has to read it: `Follows` of specs/Rules.antt says what they are.
-- Fixed by closed_is (proofs/Computed.antt): the members of `closed` are exactly the statements that follow from allowed statements, whatever
-- allowed facts stand beside them.
use mathlib.Core.List.{List, [], ◌∷◌, ◌++◌, map, flat_map}
use Rattle.std.specs.Prelude.{ℕ}
use Rattle.spec.specs.declared.Triple.{Triple}
use Rattle.spec.specs.Terms.{sub_class_of, sub_property_of, triple}
use Rattle.spec.specs.computed.Carried.{objects, spread}

-- The statements of the property k that join a to what one or more steps reach.
unfoldable pub pairs_from : List Triple → ℕ → ℕ → List Triple
pairs_from S k a = map (λ b. triple a k b) (spread S k (objects S k (a ∷ [])))

-- Those of all subjects.
unfoldable pub pairs : List Triple → ℕ → List Triple
pairs S k = flat_map (λ (t : Triple). pairs_from S k t.subject) S

-- The statements closed: the explicit ones, and those that steps of subclasses and of subproperties join.
unfoldable pub closed : List Triple → List Triple
closed S = S ++ (pairs S sub_class_of ++ pairs S sub_property_of)
