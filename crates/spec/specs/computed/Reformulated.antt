-- The alternatives of an atom, computed. Nobody has to read it: `IsAlternative` of specs/Alternatives.antt says what they are.
-- Fixed by alternatives_are (proofs/Computed.antt): ascending, and its members are exactly the alternatives.
use Rattle.std.specs.Prelude.{ℕ, not, eqb}
use mathlib.Core.List.{List, ◌∷◌, ◌++◌, map, flat_map}
use Rattle.spec.specs.declared.Triple.{Triple}
use Rattle.spec.specs.Terms.{sub_class_of, sub_property_of, domain, range, triple}
use Rattle.spec.specs.Lists.{select}
use Rattle.spec.specs.Questions.{admits, admits_class}
use Rattle.spec.specs.computed.Carried.{reach, spread, objects, ascend}

-- The targets that lie over one of some classes, paired with a kind and a source, as an atom admits them.
unfoldable pub to_classes : Triple → ℕ → ℕ → List ℕ → List Triple
to_classes a kind source cs = map (triple kind source) (select (admits_class a) cs)

-- The same for properties.
unfoldable pub to_properties : Triple → ℕ → ℕ → List ℕ → List Triple
to_properties a kind source qs = map (triple kind source) (select (admits a.property) qs)

-- All but x.
unfoldable pub without : ℕ → List ℕ → List ℕ
without x xs = select (λ y. not (eqb x y)) xs

-- The alternatives of kinds 1 to 4 with the source x.
unfoldable pub alternatives_from : List Triple → Triple → ℕ → List Triple
alternatives_from S a x =
    let qs = reach S sub_property_of x in
    to_classes a 1 x (without x (reach S sub_class_of x))
    ++ (to_classes a 2 x (spread S sub_class_of (objects S domain qs))
    ++ (to_classes a 3 x (spread S sub_class_of (objects S range qs))
    ++ to_properties a 4 x (without x qs)))

-- "All that qualify are given, once, ascending." A source of kinds 1 to 4 is the subject of a statement.
unfoldable pub alternatives : List Triple → Triple → List Triple
alternatives S a = ascend (triple 0 0 0 ∷ flat_map (λ (t : Triple). alternatives_from S a t.subject) S)
