-- The closed statements by the rows that give them. Definitions only.
use Rattle.std.specs.Prelude.{◌≡◌, ◌⊎◌}
use mathlib.Core.List.{List, Memᴰ}
use Rattle.spec.specs.declared.Triple.{Triple}
use Rattle.spec.specs.Terms.{sub_class_of, sub_property_of}
use Rattle.spec.specs.inside.Stated.{Steps}

-- The row is a subclass or subproperty statement.
abbrev pub IsTransitive : Triple → Type 0
IsTransitive f = (f.property ≡ sub_class_of) ⊎ (f.property ≡ sub_property_of)

-- What the row f of S gives: a subclass or subproperty statement joins its subject to all that one or more steps reach; any other gives itself.
pub data Gives (S : List Triple) (f t : Triple) : Type 0 where
  joined : IsTransitive f → t.subject ≡ f.subject → t.property ≡ f.property → Steps S f.property f.subject t.object → Gives S f t
  itself : ¬ IsTransitive f → t ≡ f → Gives S f t

-- A row of S gives t.
pub record GivenBy (S : List Triple) (t : Triple) : Type 0 where
  pub row : Triple
  pub listed : Memᴰ row S
  pub gives : Gives S row t
