-- What one fact carries, computed, and the facts that carry a row. Nobody has to read it: `Carries` of specs/Rules.antt says what it is.
-- Fixed by carried_is (proofs/Computed.antt): ascending, and its members are exactly what the fact carries.
-- Fixed by carriers_are (proofs/Computed.antt): ascending, and its members are exactly the facts that carry the row; `support` is their number.
use Rattle.std.specs.Prelude.{Bool, ◌&&◌, cond, List, [], ◌∷◌, ◌++◌, map, ℕ, zero, suc, length, eqb}
use Rattle.spec.specs.declared.Triple.{Triple}
use Rattle.spec.specs.Terms.{type, sub_class_of, sub_property_of, domain, range, is_literal, triple}
use Rattle.spec.specs.Lists.{any, select}
use Rattle.spec.specs.Order.{is_in, insert}

-- Whether t is a statement of property k whose subject is one of xs.
unfoldable pub leaves : ℕ → List ℕ → Triple → Bool
leaves k xs t = eqb t.property k && any (eqb t.subject) xs

-- The objects of the statements of property k whose subject is one of xs.
unfoldable pub objects : List Triple → ℕ → List ℕ → List ℕ
objects S k xs = map (λ (t : Triple). t.object) (select (leaves k xs) S)

-- What n rounds of steps of property k add to xs.
unfoldable pub steps : ℕ → List Triple → ℕ → List ℕ → List ℕ
steps zero S k xs = xs
steps (suc n) S k xs = steps n S k (xs ++ objects S k xs)

-- All that is reached by steps of property k from one of xs: no path needs more rounds than there are statements.
unfoldable pub spread : List Triple → ℕ → List ℕ → List ℕ
spread S k xs = steps (length S) S k xs

-- All that is reached by steps of property k from a.
unfoldable pub reach : List Triple → ℕ → ℕ → List ℕ
reach S k a = spread S k (a ∷ [])

-- The properties that a fact has: its own, and those that it is below.
unfoldable pub properties : List Triple → Triple → List ℕ
properties S f = reach S sub_property_of f.property

-- The classes that a fact gives its subject.
unfoldable pub subject_classes : List Triple → Triple → List ℕ
subject_classes S f = spread S sub_class_of (cond (eqb f.property type) (f.object ∷ []) [] ++ objects S domain (properties S f))

-- The classes that a fact gives its object.
unfoldable pub object_classes : List Triple → Triple → List ℕ
object_classes S f = cond (is_literal f.object) [] (spread S sub_class_of (objects S range (properties S f)))

-- What a fact carries, by what gives it.
unfoldable pub conclusions : List Triple → Triple → List Triple
conclusions S f =
    map (λ q. triple f.subject q f.object) (properties S f)
    ++ (map (λ c. triple f.subject type c) (subject_classes S f)
    ++ map (λ c. triple f.object type c) (object_classes S f))

-- The ascending list of some triples, each once.
unfoldable pub ascend : List Triple → List Triple
ascend [] = []
ascend (t ∷ ts) = insert t (ascend ts)

-- What the fact f carries: ascending, each once.
unfoldable pub carried : List Triple → Triple → List Triple
carried S f = ascend (conclusions S f)

-- "The support of a fact is the number of explicit facts that carry it": those of F that carry t.
unfoldable pub carriers : List Triple → List Triple → Triple → List Triple
carriers S F t = select (λ f. is_in t (carried S f)) F

-- Their number.
unfoldable pub support : List Triple → List Triple → Triple → ℕ
support S F t = length (carriers S F t)
