-- The statements that hold, by rules whose premises are both statements: for rows that the tables may hold these are the statements that follow
-- (`follows_iff`), in the form that the code computes. Definitions only.
use mathlib.Core.List.{List, Memᴰ}
use Rattle.std.specs.Prelude.{ℕ}
use Rattle.spec.specs.declared.Triple.{Triple}
use Rattle.spec.specs.Terms.{sub_class_of, sub_property_of, triple}
use Rattle.spec.specs.Rules.{Reach}

-- The statements that hold, given the explicit ones S: subproperties and subclasses are transitive.
pub data Stated (S : List Triple) : Triple → Type 0 where
  explicit : {t : Triple} → Memᴰ t S → Stated S t
  -- rdfs5: "xxx rdfs:subPropertyOf yyy . yyy rdfs:subPropertyOf zzz ." give "xxx rdfs:subPropertyOf zzz ."
  rdfs5 : {x y z : ℕ} → Stated S (triple x sub_property_of y) → Stated S (triple y sub_property_of z) → Stated S (triple x sub_property_of z)
  -- rdfs11: "xxx rdfs:subClassOf yyy . yyy rdfs:subClassOf zzz ." give "xxx rdfs:subClassOf zzz ."
  rdfs11 : {x y z : ℕ} → Stated S (triple x sub_class_of y) → Stated S (triple y sub_class_of z) → Stated S (triple x sub_class_of z)

-- One or more steps of the property k from a to b: statements a k x, x k y, .. z k b. A term is joined to itself where it lies on a loop.
pub record Steps (S : List Triple) (k a b : ℕ) : Type 0 where
  pub next : ℕ
  pub first : Memᴰ (triple a k next) S
  pub rest : Reach S k next b
