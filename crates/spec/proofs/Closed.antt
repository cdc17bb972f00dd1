-- The closed statements are exactly those that hold by rdfs5 and rdfs11, and exactly what the rows give. Assumes nothing.
use mathlib.Core.Path.{◌≡◌, refl, sym, subst}
use mathlib.Core.List.Memᴰ
use mathlib.Core.List.{List, ◌++◌, Memᴰ}
use mathlib.Core.Logic.{◌⊎◌, inl, inr, ⊎_elim, by_cases, ◌↔◌}
use Prim.Native.Nat.{ℕ}
use native.Mathlib.Omega.{arith}
use native.Mathlib.Decide.{ℕ_discrete}
use Rattle.spec.specs.declared.Triple.{Triple}
use Rattle.spec.specs.Terms.{sub_class_of, sub_property_of, triple}
use Rattle.spec.specs.Rules.{Reach, stay, step}
use Rattle.spec.specs.inside.Comparison.{triple_eq}
use Rattle.spec.specs.inside.Stated.{Stated, explicit, rdfs5, rdfs11, Steps}
use Rattle.spec.specs.computed.Closed.{pairs, closed}
use Rattle.spec.specs.inside.Given.{IsTransitive, Gives, joined, itself, GivenBy}
use Rattle.spec.proofs.Steps.{steps_trans, step_of, pairs_iff}

-- ---- what holds, by property

-- A statement that holds is explicit, or one whose sides steps of subclasses or of subproperties join.
data Kind (S : List Triple) (t : Triple) : Type 0 where
  as_explicit : Memᴰ t S → Kind S t
  as_class : t.property ≡ sub_class_of → Steps S sub_class_of t.subject t.object → Kind S t
  as_property : t.property ≡ sub_property_of → Steps S sub_property_of t.subject t.object → Kind S t

class-steps : {S : List Triple} (t : Triple) → t.property ≡ sub_class_of → Kind S t → Steps S sub_class_of t.subject t.object
class-steps t e (as_explicit m) = step_of t e m
class-steps t e (as_class _ p) = p
class-steps t e (as_property q p) = absurd (omega (arith, e, q))

property-steps : {S : List Triple} (t : Triple) → t.property ≡ sub_property_of → Kind S t → Steps S sub_property_of t.subject t.object
property-steps t e (as_explicit m) = step_of t e m
property-steps t e (as_class q p) = absurd (omega (arith, e, q))
property-steps t e (as_property _ p) = p

kind_of_lem : {S : List Triple} {t : Triple} → Stated S t → Kind S t
kind_of_lem (explicit m) = as_explicit m
kind_of_lem (rdfs5 {x} {y} {z} p q) = as_property refl (steps_trans (property-steps (triple x sub_property_of y) refl (kind_of_lem p)) (property-steps (triple y sub_property_of z) refl (kind_of_lem q)))
kind_of_lem (rdfs11 {x} {y} {z} p q) = as_class refl (steps_trans (class-steps (triple x sub_class_of y) refl (kind_of_lem p)) (class-steps (triple y sub_class_of z) refl (kind_of_lem q)))

-- A rule that makes the property k transitive carries a statement along steps.
module _ {S : List Triple} {k : ℕ} (rule : (x y z : ℕ) → Stated S (triple x k y) → Stated S (triple y k z) → Stated S (triple x k z)) where
  reach_stated : {a b c : ℕ} → Stated S (triple a k b) → Reach S k b c → Stated S (triple a k c)
  reach_stated h stay = h
  reach_stated h (step r m) = rule _ _ _ (reach_stated h r) (explicit m)

  steps_stated : {a b : ℕ} → Steps S k a b → Stated S (triple a k b)
  steps_stated p = reach_stated (explicit p.first) p.rest

-- A statement by its parts.
of_parts : {S : List Triple} {k : ℕ} (t : Triple) → t.property ≡ k → Stated S (triple t.subject k t.object) → Stated S t
of_parts {S} {k} t e h = subst (Stated S) (triple_eq (triple t.subject k t.object) t refl (sym e) refl) h

-- Subclass and subproperty statements hold exactly where one or more steps join their sides.
pub stated-steps : (S : List Triple) (k a b : ℕ) → (k ≡ sub_class_of) ⊎ (k ≡ sub_property_of) → Stated S (triple a k b) ↔ Steps S k a b
stated-steps S k a b (inl e) = rw e (λ h. class-steps (triple a sub_class_of b) refl (kind_of_lem h), λ p. steps_stated (λ x y z. rdfs11) p)
stated-steps S k a b (inr e) = rw e (λ h. property-steps (triple a sub_property_of b) refl (kind_of_lem h), λ p. steps_stated (λ x y z. rdfs5) p)

-- Any other statement holds exactly where it is explicit.
pub stated_explicit : (S : List Triple) (t : Triple) → ¬ (t.property ≡ sub_class_of) → ¬ (t.property ≡ sub_property_of) → Stated S t ↔ Memᴰ t S
stated_explicit S t n m = (λ h. out (kind_of_lem h), explicit)
  where
    out : Kind S t → Memᴰ t S
    out (as_explicit i) = i
    out (as_class e p) = absurd (n e)
    out (as_property e p) = absurd (m e)

-- ---- the closed statements

-- The closed statements are exactly those that hold.
pub closed_iff : (S : List Triple) (t : Triple) → Memᴰ t (closed S) ↔ Stated S t
unfolding closed
closed_iff S t = (
  λ m. ⊎_elim explicit
      (λ i. ⊎_elim
      (λ j. let h = (pairs_iff S sub_class_of t).0 j in of_parts t h.0 (steps_stated (λ x y z. rdfs11) h.1))
      (λ j. let h = (pairs_iff S sub_property_of t).0 j in of_parts t h.0 (steps_stated (λ x y z. rdfs5) h.1))
      (Memᴰ.append_cases (pairs S sub_class_of) i))
      (Memᴰ.append_cases S m),
  λ h. into (kind_of_lem h),
)
  where
    into : Kind S t → Memᴰ t (S ++ (pairs S sub_class_of ++ pairs S sub_property_of))
    into (as_explicit m) = Memᴰ.append_left (pairs S sub_class_of ++ pairs S sub_property_of) m
    into (as_class e p) = Memᴰ.append_right S (Memᴰ.append_left (pairs S sub_property_of) ((pairs_iff S sub_class_of t).1 (e, p)))
    into (as_property e p) = Memᴰ.append_right S (Memᴰ.append_right (pairs S sub_class_of) ((pairs_iff S sub_property_of t).1 (e, p)))

-- ---- by rows

-- Whether a row is a subclass or subproperty statement.
transitive_or : {C : Type 0} (f : Triple) → (IsTransitive f → C) → (¬ IsTransitive f → C) → C
transitive_or f yes' no' =
    by_cases (ℕ_discrete f.property sub_class_of)
    (λ e. yes' (inl e))
    (λ n. by_cases (ℕ_discrete f.property sub_property_of) (λ e. yes' (inr e)) (λ m. no' (λ z. ⊎_elim n m z)))

-- The closed statements are exactly what the rows give.
pub closed-rows : (S : List Triple) (t : Triple) → Memᴰ t (closed S) ↔ GivenBy S t
closed-rows S t = (λ m. out (kind_of_lem ((closed_iff S t).0 m)), λ g. (closed_iff S t).1 (into g.row g.listed g.gives))
  where
    by-steps : (k : ℕ) → (k ≡ sub_class_of) ⊎ (k ≡ sub_property_of) → t.property ≡ k → Steps S k t.subject t.object → GivenBy S t
    by-steps k c e p = record { row = triple t.subject k p.next; listed = p.first; gives = joined c refl e p }

    out : Kind S t → GivenBy S t
    out (as_explicit m) = transitive_or t (λ c. by-steps t.property c refl (step_of t refl m)) (λ n. record { row = t; listed = m; gives = itself n refl })
    out (as_class e p) = by-steps sub_class_of (inl refl) e p
    out (as_property e p) = by-steps sub_property_of (inr refl) e p

    into : (f : Triple) → Memᴰ f S → Gives S f t → Stated S t
    into f m (joined c e q p) = of_parts t q ((stated-steps S f.property t.subject t.object c).1 (subst (λ (a : ℕ). Steps S f.property a t.object) (sym e) p))
    into f m (itself n e) = explicit (Memᴰ.cast e m)
