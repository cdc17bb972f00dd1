-- Of allowed statements only allowed statements follow. Assumes nothing.
use mathlib.Core.Path.{◌≡◌, refl}
use mathlib.Core.Bool.{Bool, true, ◌&&◌}
use mathlib.Core.List.{List, Memᴰ}
use Prim.Native.Nat.{ℕ}
use Rattle.spec.specs.declared.Triple.{Triple}
use Rattle.spec.specs.Terms.{is_uri, is_resource, is_triple, is_statement, is_class, is_property, are_sides_allowed, is_allowed_statement, triple, sub_class_of, sub_property_of}
use Rattle.spec.proofs.Ascending.{and_left, and_right}
use Rattle.spec.specs.inside.Stated.{Stated, explicit, rdfs5, rdfs11}

both : (a b : Bool) → a ≡ true → b ≡ true → (a && b) ≡ true
both a b p q = rw (p, q)

-- Terms that may be the parts make a triple.
triple_of_lem : (a k b : ℕ) → is_resource a ≡ true → is_uri k ≡ true → is_resource b ≡ true → is_triple (triple a k b) ≡ true
unfolding is_triple
triple_of_lem a k b p u q = rw (p, u, q)

-- 2 and 3 are URIs.
two_uri : is_uri 2 ≡ true
unfolding is_uri
two_uri = refl

three_uri : is_uri 3 ≡ true
unfolding is_uri
three_uri = refl

-- A URI is a resource.
uri_resource : (a : ℕ) → is_uri a ≡ true → is_resource a ≡ true
uri_resource a e = rw e

-- Two classes make an allowed subclass statement,
sub_class_allowed : (a b : ℕ) → is_class a ≡ true → is_class b ≡ true → is_allowed_statement (triple a sub_class_of b) ≡ true
unfolding is_allowed_statement is_statement are_sides_allowed
sub_class_allowed a b p q = both _ _ (triple_of_lem a 2 b (and_left _ _ p) two_uri (and_left _ _ q)) (both _ _ p q)

-- which has two classes.
sub_class_sides : (a b : ℕ) → is_allowed_statement (triple a sub_class_of b) ≡ true → (is_class a ≡ true) × (is_class b ≡ true)
unfolding is_allowed_statement is_statement are_sides_allowed
sub_class_sides a b e = let h = and_right (is_triple (triple a sub_class_of b)) _ e in (and_left _ _ h, and_right (is_class a) _ h)

-- Two properties make an allowed subproperty statement,
sub_property_allowed : (a b : ℕ) → is_property a ≡ true → is_property b ≡ true → is_allowed_statement (triple a sub_property_of b) ≡ true
unfolding is_allowed_statement is_statement are_sides_allowed
sub_property_allowed a b p q = both _ _ (triple_of_lem a 3 b (uri_resource a (and_left _ _ p)) three_uri (uri_resource b (and_left _ _ q))) (both _ _ p q)

-- which has two properties.
sub_property_sides : (a b : ℕ) → is_allowed_statement (triple a sub_property_of b) ≡ true → (is_property a ≡ true) × (is_property b ≡ true)
unfolding is_allowed_statement is_statement are_sides_allowed
sub_property_sides a b e = let h = and_right (is_triple (triple a sub_property_of b)) _ e in (and_left _ _ h, and_right (is_property a) _ h)

-- Of allowed statements only allowed statements follow.
pub stated_allowed : {S : List Triple} {t : Triple} → ((u : Triple) → Memᴰ u S → is_allowed_statement u ≡ true) → Stated S t → is_allowed_statement t ≡ true
stated_allowed w (explicit m) = w _ m
stated_allowed w (rdfs5 {x} {y} {z} p q) = sub_property_allowed x z (sub_property_sides x y (stated_allowed w p)).0 (sub_property_sides y z (stated_allowed w q)).1
stated_allowed w (rdfs11 {x} {y} {z} p q) = sub_class_allowed x z (sub_class_sides x y (stated_allowed w p)).0 (sub_class_sides y z (stated_allowed w q)).1
