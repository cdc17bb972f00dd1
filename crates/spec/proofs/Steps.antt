-- One or more steps of a property, and the pairs that they join, computed. Assumes nothing.
use mathlib.Core.Path.{◌≡◌, refl, sym, subst}
use mathlib.Core.List.Memᴰ
use mathlib.Core.List.{List, [], ◌∷◌, Memᴰ}
use mathlib.Core.Logic.{◌↔◌}
use Prim.Native.Nat.{ℕ}
use Rattle.spec.specs.declared.Triple.{Triple}
use Rattle.spec.specs.Terms.{triple}
use Rattle.spec.specs.Rules.{Reach, stay, step}
use Rattle.spec.specs.computed.Carried.{objects, spread}
use Rattle.spec.specs.inside.Comparison.{triple_eq}
use Rattle.spec.proofs.Order.{of_subject, of_property, of_object}
use Rattle.spec.proofs.Lists.{flat_map_in, flat_map_out}
use Rattle.spec.proofs.Reach.{objects_iff, spread_iff}
use Rattle.spec.specs.inside.Stated.{Steps}
use Rattle.spec.specs.computed.Closed.{pairs_from, pairs}

-- ---- steps

-- Steps, one after the other.
pub reach_trans : {S : List Triple} {k a b c : ℕ} → Reach S k a b → Reach S k b c → Reach S k a c
reach_trans r stay = r
reach_trans r (step q m) = step (reach_trans r q) m

-- One or more steps are zero or more.
pub steps-reach : {S : List Triple} {k a b : ℕ} → Steps S k a b → Reach S k a b
steps-reach p = reach_trans (step stay p.first) p.rest

-- One step.
pub steps_one : {S : List Triple} {k a b : ℕ} → Memᴰ (triple a k b) S → Steps S k a b
steps_one {b = b} m = record { next = b; first = m; rest = stay }

-- One step more.
pub steps_more : {S : List Triple} {k a b c : ℕ} → Steps S k a b → Memᴰ (triple b k c) S → Steps S k a c
steps_more p m = record { next = p.next; first = p.first; rest = step p.rest m }

-- Steps from a to b and from b to c are steps from a to c.
pub steps_trans : {S : List Triple} {k a b c : ℕ} → Steps S k a b → Steps S k b c → Steps S k a c
steps_trans p q = record { next = p.next; first = p.first; rest = reach_trans p.rest (steps-reach q) }

-- A statement is one step.
pub step_of : {S : List Triple} {k : ℕ} (t : Triple) → t.property ≡ k → Memᴰ t S → Steps S k t.subject t.object
step_of {k = k} t e m = steps_one (Memᴰ.cast (triple_eq (triple t.subject k t.object) t refl (sym e) refl) m)

-- ---- the computed pairs

-- Those from a.
pub pairs_from_iff : (S : List Triple) (k a : ℕ) (t : Triple) → Memᴰ t (pairs_from S k a) ↔ ((t.subject ≡ a) × ((t.property ≡ k) × Steps S k a t.object))
unfolding pairs_from
pairs_from_iff S k a t = (
  λ m.
      let r = Memᴰ.of_map (λ b. triple a k b) (spread S k (objects S k (a ∷ []))) m in
      let f = (spread_iff S k (objects S k (a ∷ [])) r.0).0 r.1 in
      let s = (objects_iff S k (a ∷ []) f.start).0 f.listed in
      let e : s.start ≡ a = Memᴰ.eq_of_singleton s.listed in
      (sym (of_subject r.2), (sym (of_property r.2), record { next = f.start; first = rw e at s.stated; rest = subst (Reach S k f.start) (of_object r.2) f.path })),
  λ h.
      let p = h.1.1 in
      Memᴰ.cast (triple_eq t (triple a k t.object) h.0 h.1.0 refl)
      (Memᴰ.map (λ b. triple a k b) ((spread_iff S k (objects S k (a ∷ [])) t.object).1
      (record { start = p.next; listed = (objects_iff S k (a ∷ []) p.next).1 (record { start = a; listed = Memᴰ.head refl; stated = p.first }); path = p.rest }))),
)

-- The pairs of the property k are exactly the statements of that property whose sides one or more steps join.
pub pairs_iff : (S : List Triple) (k : ℕ) (t : Triple) → Memᴰ t (pairs S k) ↔ ((t.property ≡ k) × Steps S k t.subject t.object)
unfolding pairs
pairs_iff S k t = (
  λ m.
      let r = flat_map_out (λ (u : Triple). pairs_from S k u.subject) S m in
      let h = (pairs_from_iff S k r.from.subject t).0 r.gives in
      (h.1.0, subst (λ (a : ℕ). Steps S k a t.object) (sym h.0) h.1.1),
  λ h. flat_map_in (λ (u : Triple). pairs_from S k u.subject) S h.1.first ((pairs_from_iff S k t.subject t).1 (refl, h)),
)
