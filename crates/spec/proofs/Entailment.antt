-- What holds: each triple that holds is carried by one explicit fact; no derived triple is a statement; all that holds is allowed. Assumes nothing.
use mathlib.Core.Path.{◌≡◌, refl, sym, ◌∙◌}
use mathlib.Core.Bool.{Bool, true, false, ◌&&◌, ◌||◌, cond}
use mathlib.Core.List.Memᴰ
use mathlib.Core.List.{List, Memᴰ}
use mathlib.Core.Logic.{◌↔◌}
use Prim.Native.Nat.{ℕ, ◌≤◌}
use native.Mathlib.Omega.{arith}
use lib.Dec.{eqb, leb}
use borrow.Author.Tests.{leb-true, le-leb, not-true}
use Rattle.spec.specs.declared.Triple.{Triple}
use Rattle.spec.specs.Terms.{is_uri, is_literal, is_vocabulary, triple, is_resource, is_triple, is_statement, is_class, is_property, are_sides_allowed, is_allowed_statement, is_allowed_fact}
use Rattle.spec.proofs.Ascending.{and_left, and_right}
use Rattle.spec.specs.inside.Entailment.{Holds, explicit, rdfs2, rdfs3, rdfs7, rdfs9, HoldsBy, NoVocabulary}

-- More statements and more explicit facts, no fewer conclusions.
pub holds_mono : {R S F G : List Triple} {t : Triple} → ((u : Triple) → Memᴰ u R → Memᴰ u S) → ((u : Triple) → Memᴰ u F → Memᴰ u G) → Holds R F t → Holds S G t
holds_mono g h (explicit m) = explicit (h _ m)
holds_mono g h (rdfs2 m d) = rdfs2 (g _ m) (holds_mono g h d)
holds_mono g h (rdfs3 m l d) = rdfs3 (g _ m) l (holds_mono g h d)
holds_mono g h (rdfs7 m d) = rdfs7 (g _ m) (holds_mono g h d)
holds_mono g h (rdfs9 m d) = rdfs9 (g _ m) (holds_mono g h d)

-- A fact of F that carries t.
pub record Carrier (S F : List Triple) (t : Triple) : Type 0 where
  pub fact : Triple
  pub explicit_fact : Memᴰ fact F
  pub carries : HoldsBy S fact t

-- What is derived from a carried triple is carried by the same fact.
onward : {S F : List Triple} {t u : Triple} → ((f : Triple) → HoldsBy S f t → HoldsBy S f u) → Carrier S F t → Carrier S F u
onward g c = record { fact = c.fact; explicit_fact = c.explicit_fact; carries = g c.fact c.carries }

-- The fact at the start of a derivation carries what is derived.
carrier : {S F : List Triple} {t : Triple} → Holds S F t → Carrier S F t
carrier (explicit {t = u} m) = record { fact = u; explicit_fact = m; carries = explicit (Memᴰ.head refl) }
carrier (rdfs2 m d) = onward (λ f. rdfs2 m) (carrier d)
carrier (rdfs3 m l d) = onward (λ f. rdfs3 m l) (carrier d)
carrier (rdfs7 m d) = onward (λ f. rdfs7 m) (carrier d)
carrier (rdfs9 m d) = onward (λ f. rdfs9 m) (carrier d)

-- A triple holds exactly if some explicit fact carries it.
pub holds_iff-carried : (S F : List Triple) (t : Triple) → Holds S F t ↔ Carrier S F t
holds_iff-carried S F t = (carrier, λ c. holds_mono (λ u m. m) (λ u m. Memᴰ.cast (Memᴰ.eq_of_singleton m) c.explicit_fact) c.carries)

-- ---- nothing derived is a statement

-- A conjunction is false where both sides are never true.
and_never : (a b : Bool) → (a ≡ true → b ≡ true → ⊥) → (a && b) ≡ false
and_never true true h = absurd (h refl refl)
and_never true false h = refl
and_never false b h = refl

-- A word that is no vocabulary URI is not one of 1 to 5.
pub not_vocabulary : {w : ℕ} → is_vocabulary w ≡ false → 1 ≤ w → w ≤ 5 → ⊥
unfolding is_vocabulary
not_vocabulary {w} e l h = let z : ◌≡◌ {A = ℕ} 0 1 = cc (le-leb 1 w l, le-leb w 5 h) in omega arith

-- A triple whose property is no vocabulary URI is no statement.
no_statement : (t : Triple) → is_vocabulary t.property ≡ false → is_statement t ≡ false
unfolding is_statement
no_statement t e = and_never (leb 2 t.property) (leb t.property 5) (λ a b. not_vocabulary e (omega (arith, leb-true 2 t.property a)) (leb-true t.property 5 b))

-- Nor is one whose property is rdf:type.
type_no_statement : (a c : ℕ) → is_statement (triple a 1 c) ≡ false
unfolding is_statement
type_no_statement a c = refl

-- No derived triple is a statement.
pub holds_is_fact : {S F : List Triple} {t : Triple} → NoVocabulary S → ((u : Triple) → Memᴰ u F → is_statement u ≡ false) → Holds S F t → is_statement t ≡ false
holds_is_fact w n (explicit m) = n _ m
holds_is_fact w n (rdfs2 {c} {a} m d) = type_no_statement a c
holds_is_fact w n (rdfs3 {c} {b} m l d) = type_no_statement b c
holds_is_fact w n (rdfs7 {q} {a} {b} m d) = no_statement (triple a q b) (w _ m).1
holds_is_fact w n (rdfs9 {d} {a} m h) = type_no_statement a d

-- ---- what allowed statements say of their sides

-- A condition that both arms ask holds.
cond_and_right : (b x y z : Bool) → cond b (x && z) (y && z) ≡ true → z ≡ true
cond_and_right true x y z e = and_right x z e
cond_and_right false x y z e = and_right y z e

-- An allowed statement has allowed sides.
allowed_sides : (t : Triple) → is_allowed_statement t ≡ true → are_sides_allowed t ≡ true
unfolding is_allowed_statement
allowed_sides t e = and_right (is_statement t) _ (and_right (is_triple t) _ e)

-- An allowed side is no vocabulary URI.
sides_no_vocabulary : (t : Triple) → are_sides_allowed t ≡ true → (is_vocabulary t.subject ≡ false) × (is_vocabulary t.object ≡ false)
unfolding are_sides_allowed
sides_no_vocabulary t e = (
  not-true _ (cond_and_right (eqb t.property 2) (is_resource t.subject) (is_uri t.subject) _ (and_left _ _ e)),
  not-true _ (cond_and_right (eqb t.property 3) (is_uri t.object) (is_resource t.object) _ (and_right (cond (eqb t.property 2) (is_class t.subject) (is_property t.subject)) _ e)),
)

-- Allowed statements have no vocabulary URI on a side.
pub allowed_no_vocabulary : (S : List Triple) → ((t : Triple) → Memᴰ t S → is_allowed_statement t ≡ true) → NoVocabulary S
allowed_no_vocabulary S h t m = sides_no_vocabulary t (allowed_sides t (h t m))

-- The object of an allowed statement of property 2, 4 or 5 is a URI or blank.
object_resource : (p k c : ℕ) → eqb k 3 ≡ false → is_allowed_statement (triple p k c) ≡ true → is_resource c ≡ true
unfolding are_sides_allowed
object_resource p k c n e =
    let h : cond (eqb k 3) (is_property c) (is_class c) ≡ true = and_right (cond (eqb k 2) (is_class p) (is_property p)) _ (allowed_sides (triple p k c) e) in
    and_left _ _ (rw n at h)

-- The object of an allowed statement of property 3 is a URI.
object_uri : (p q : ℕ) → is_allowed_statement (triple p 3 q) ≡ true → is_uri q ≡ true
unfolding are_sides_allowed
object_uri p q e = and_left _ _ (and_right (is_property p) _ (allowed_sides (triple p 3 q) e))

-- ---- all that holds is allowed

-- A conjunction of two truths is true.
both : (a b : Bool) → a ≡ true → b ≡ true → (a && b) ≡ true
both a b p q = rw (p, q)

-- What is a resource or a literal, and is no literal, is a resource.
resource_of : (a b : Bool) → (a || b) ≡ true → b ≡ false → a ≡ true
resource_of true b e n = refl
resource_of false b e n = sym n ∙ e

-- What makes a triple of three words.
record Places (t : Triple) : Type 0 where
  resource : is_resource t.subject ≡ true
  uri : is_uri t.property ≡ true
  value : (is_resource t.object || is_literal t.object) ≡ true

-- A triple has such words,
places : (t : Triple) → is_triple t ≡ true → Places t
unfolding is_triple
places t e =
    let h = and_left _ _ e in
    record { resource = and_left _ _ h; uri = and_right (is_resource t.subject) _ h; value = and_right (is_resource t.subject && is_uri t.property) _ e }

-- and such words make a triple.
placed : (t : Triple) → Places t → is_triple t ≡ true
unfolding is_triple
placed t h = both _ _ (both _ _ h.resource h.uri) h.value

-- rdf:type is a URI.
type_uri : is_uri 1 ≡ true
unfolding is_uri
type_uri = refl

-- A resource that is given a class makes a triple.
type-triple : (a c : ℕ) → is_resource a ≡ true → is_resource c ≡ true → is_triple (triple a 1 c) ≡ true
type-triple a c e g = placed (triple a 1 c) (record { resource = e; uri = type_uri; value = rw g })

-- All that holds is a triple.
holds-triple : {S F : List Triple} {t : Triple} → ((u : Triple) → Memᴰ u S → is_allowed_statement u ≡ true) → ((u : Triple) → Memᴰ u F → is_triple u ≡ true) → Holds S F t → is_triple t ≡ true
holds-triple w n (explicit m) = n _ m
holds-triple w n (rdfs2 {p} {c} {a} {b} m d) = type-triple a c (places (triple a p b) (holds-triple w n d)).resource (object_resource p _ c refl (w _ m))
holds-triple w n (rdfs3 {p} {c} {a} {b} m l d) = type-triple b c (resource_of _ _ (places (triple a p b) (holds-triple w n d)).value l) (object_resource p _ c refl (w _ m))
holds-triple w n (rdfs7 {p} {q} {a} {b} m d) =
    let h = places (triple a p b) (holds-triple w n d) in
    placed (triple a q b) (record { resource = h.resource; uri = object_uri p q (w _ m); value = h.value })
holds-triple w n (rdfs9 {c} {d} {a} m h) = type-triple a d (places (triple a 1 c) (holds-triple w n h)).resource (object_resource c 2 d refl (w _ m))

-- An allowed fact is a triple and no statement.
pub allowed_fact : (t : Triple) → is_allowed_fact t ≡ true → (is_triple t ≡ true) × (is_statement t ≡ false)
unfolding is_allowed_fact
allowed_fact t e = (and_left _ _ e, not-true _ (and_right (is_triple t) _ e))

-- All that holds is allowed: from allowed statements and facts only allowed facts follow.
pub holds_allowed : {S F : List Triple} {t : Triple} → ((u : Triple) → Memᴰ u S → is_allowed_statement u ≡ true) → ((u : Triple) → Memᴰ u F → is_allowed_fact u ≡ true) → Holds S F t → is_allowed_fact t ≡ true
unfolding is_allowed_fact
holds_allowed {S} {t} w n h =
    let f = holds_is_fact (allowed_no_vocabulary S w) (λ u m. (allowed_fact u (n u m)).1) h in
    both _ _ (holds-triple w (λ u m. (allowed_fact u (n u m)).0) h) (rw f)
