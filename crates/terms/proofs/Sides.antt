-- What `are_sides_allowed` says of each property, as the code tests it. Assumes nothing.
use mathlib.Core.Path.{◌≡◌}
use mathlib.Core.Bool.{Bool, ◌&&◌}
use native.Mathlib.Omega.{arith}
use borrow.Author.Tests.{eq-eqb, ne_eqb}
use Rattle.spec.specs.declared.Triple.{Triple}
use Rattle.spec.specs.Terms.{is_class, is_property, are_sides_allowed}

pub of_classes : (t : Triple) (a b : Bool) → t.property ≡ 2 → a ≡ is_class t.subject → b ≡ is_class t.object → (a && b) ≡ are_sides_allowed t
unfolding are_sides_allowed
of_classes t a b e p q = rw (p, q, eq-eqb t.property 2 e, ne_eqb t.property 3 (λ h. omega arith))

pub of_properties : (t : Triple) (a b : Bool) → t.property ≡ 3 → a ≡ is_property t.subject → b ≡ is_property t.object → (a && b) ≡ are_sides_allowed t
unfolding are_sides_allowed
of_properties t a b e p q = rw (p, q, eq-eqb t.property 3 e, ne_eqb t.property 2 (λ h. omega arith))

pub of_both : (t : Triple) (a b : Bool) → (t.property ≡ 2 → ⊥) → (t.property ≡ 3 → ⊥) → a ≡ is_property t.subject → b ≡ is_class t.object → (a && b) ≡ are_sides_allowed t
unfolding are_sides_allowed
of_both t a b e f p q = rw (p, q, ne_eqb t.property 2 e, ne_eqb t.property 3 f)
