-- The facts that hold, by rules of which one premise is an explicit statement and the other a fact: for rows that the tables may hold this is
-- what follows (`follows_iff`), in the form that the code computes. Definitions only.
use Rattle.std.specs.Prelude.{◌≡◌, false, ◌⊎◌, ℕ}
use mathlib.Core.List.{List, [], ◌∷◌, Memᴰ}
use Rattle.spec.specs.declared.Triple.{Triple}
use Rattle.spec.specs.Terms.{type, sub_class_of, sub_property_of, domain, range, is_literal, is_vocabulary, triple}
use Rattle.spec.specs.Rules.{Reach}
use Rattle.spec.specs.inside.Stated.{Stated}

-- The facts that hold, given the statements S and the explicit facts F.
pub data Holds (S F : List Triple) : Triple → Type 0 where
  explicit : {t : Triple} → Memᴰ t F → Holds S F t
  -- "Domain: p 4 c and a p b give a 1 c."
  rdfs2 : {p c a b : ℕ} → Memᴰ (triple p domain c) S → Holds S F (triple a p b) → Holds S F (triple a type c)
  -- "Range: p 5 c and a p b give b 1 c, unless b is a literal, for then the result would be no triple."
  rdfs3 : {p c a b : ℕ} → Memᴰ (triple p range c) S → is_literal b ≡ false → Holds S F (triple a p b) → Holds S F (triple b type c)
  -- "Subproperty: p 3 q and a p b give a q b."
  rdfs7 : {p q a b : ℕ} → Memᴰ (triple p sub_property_of q) S → Holds S F (triple a p b) → Holds S F (triple a q b)
  -- "Subclass: c 2 d and a 1 c give a 1 d."
  rdfs9 : {c d a : ℕ} → Memᴰ (triple c sub_class_of d) S → Holds S F (triple a type c) → Holds S F (triple a type d)

-- A fact that holds by the one explicit fact f.
abbrev pub HoldsBy : List Triple → Triple → Triple → Type 0
HoldsBy S f t = Holds S (f ∷ []) t

-- The triples that a question is put to: the statements that hold, and the facts that hold.
abbrev pub InGraph : List Triple → List Triple → Triple → Type 0
InGraph S F t = Stated S t ⊎ Holds S F t

-- b is reached by steps of the property k from one of xs.
pub record ReachFrom (S : List Triple) (k : ℕ) (xs : List ℕ) (b : ℕ) : Type 0 where
  pub start : ℕ
  pub listed : Memᴰ start xs
  pub path : Reach S k start b

-- No statement has a vocabulary URI on a side. Every well-formed table of statements is so.
abbrev pub NoVocabulary : List Triple → Type 0
NoVocabulary S = (t : Triple) → Memᴰ t S → (is_vocabulary t.subject ≡ false) × (is_vocabulary t.object ≡ false)
