-- The alternatives of an atom are sound and complete: over the closed statements and the explicit facts they give exactly what follows and what the
-- atom admits. Assumes nothing.
use mathlib.Core.Path.{◌≡◌, refl, sym, ◌∙◌, subst}
use mathlib.Core.Bool.{true, false, ◌&&◌}
use mathlib.Core.Logic.{◌↔◌, inl, inr, ⊎_elim, by_cases}
use mathlib.Core.List.Memᴰ
use mathlib.Core.List.{List, ◌++◌, Memᴰ}
use Prim.Native.Nat.{ℕ, ◌<◌}
use native.Mathlib.Omega.{arith}
use native.Mathlib.Decide.{ℕ_discrete}
use Rattle.spec.specs.declared.Triple.{Triple}
use Rattle.spec.specs.Terms.{type, sub_class_of, sub_property_of, domain, range, is_literal, is_vocabulary, triple, is_allowed_statement, is_allowed_fact}
use Rattle.spec.specs.inside.Comparison.{triple_eq}
use Rattle.spec.proofs.Order.{of_subject}
use Rattle.spec.proofs.Ascending.{and_left}
use Rattle.spec.specs.Rules.{Follows, Reach}
use Rattle.spec.specs.inside.Stated.{Stated}
use Rattle.spec.specs.inside.Entailment.{Holds, explicit, rdfs2, rdfs3, NoVocabulary}
use Rattle.spec.specs.computed.Carried.{properties}
use Rattle.spec.proofs.Entailment.{holds_iff-carried, allowed_no_vocabulary, not_vocabulary}
use Rattle.spec.specs.computed.Closed.{closed}
use Rattle.spec.proofs.Closed.{closed_iff}
use Rattle.spec.proofs.Allowed.{stated_allowed}
use Rattle.spec.proofs.Follows.{statement_property, allowed_statement, up_classes, up-properties, follows_iff}
use Rattle.spec.proofs.Reach.{objects_iff}
use Rattle.spec.proofs.Carried.{properties_iff, SubjectStart, from_type, from_domain, start_iff, Part, as_property, as_subject, as_object, carried_iff, carried_part}
use Rattle.spec.specs.Alternatives.{IsAlternative, as_it_is, by_subclass, by_domain, by_range, by_subproperty, Gives, itself, a_class, a_property, Reformulated, admits_triple}
use Rattle.spec.specs.Questions.{admits, admits_class}
use Rattle.spec.proofs.Alternatives.{source_begins}

-- ---- sound

gives_holds : {S F : List Triple} {a f t : Triple} {k s g : ℕ} → IsAlternative S a k s g → Holds S F f → Gives k s g f t → Holds S F t
gives_holds as_it_is h itself = h
gives_holds (by_subclass r n e) h a_class = up_classes h r
gives_holds (by_domain u m r e) h Gives.of_subject = up_classes (rdfs2 m (up-properties h u)) r
gives_holds (by_range u m r e) h (Gives.of_object l) = up_classes (rdfs3 m l (up-properties h u)) r
gives_holds (by_subproperty r n e) h a_property = up-properties h r

-- What the alternatives give holds.
reformulated_holds : (S F : List Triple) (a t : Triple) → Reformulated S F a t → Holds S F t
reformulated_holds S F a t r = gives_holds r.alternative (explicit r.listed) r.gives

-- ---- complete

-- The words of a triple that an atom admits.
class_admitted : (a t : Triple) → admits_triple a t ≡ true → t.property ≡ type → admits_class a t.object ≡ true
class_admitted a t e p = subst (λ (w : ℕ). (admits a.property w && admits a.object t.object) ≡ true) p e

property_admitted : (a t : Triple) → admits_triple a t ≡ true → admits a.property t.property ≡ true
property_admitted a t e = and_left (admits a.property t.property) (admits a.object t.object) e

module _ (S F : List Triple) (a t f : Triple) (m : Memᴰ f F) (e : admits_triple a t ≡ true) where
  -- The fact itself.
  by_itself : t ≡ f → Reformulated S F a t
  by_itself q = record { kind = 0; source = 0; target = 0; fact = f; alternative = as_it_is; listed = m; gives = rw q itself }

  -- One of the four kinds.
  by_kind : (k s g : ℕ) (u : Triple) → t ≡ u → IsAlternative S a k s g → Gives k s g f u → Reformulated S F a t
  by_kind k s g u q i h = record { kind = k; source = s; target = g; fact = f; alternative = i; listed = m; gives = rw q h }

  to_property : t.subject ≡ f.subject → t.object ≡ f.object → Reach S sub_property_of f.property t.property → Reformulated S F a t
  to_property p q r =
      by_cases (ℕ_discrete f.property t.property)
      (λ (i : f.property ≡ t.property). by_itself (triple_eq t f p (sym i) q))
      (λ n. by_kind 4 f.property t.property (triple f.subject t.property f.object) (triple_eq t (triple f.subject t.property f.object) p refl q)
      (by_subproperty r n (property_admitted a t e)) a_property)

  from_a_type : (c : ℕ) → f.property ≡ type → c ≡ f.object → t.subject ≡ f.subject → t.property ≡ type → Reach S sub_class_of c t.object → Reformulated S F a t
  from_a_type c i j p q r =
      by_cases (ℕ_discrete c t.object)
      (λ (k : c ≡ t.object). by_itself (triple_eq t f p (q ∙ sym i) (sym k ∙ j)))
      (λ n. by_kind 1 c t.object (triple f.subject type t.object) (triple_eq t (triple f.subject type t.object) p q refl)
      (by_subclass r n (class_admitted a t e q))
      (subst (λ (u : Triple). Gives 1 c t.object u (triple f.subject type t.object)) (triple_eq (triple f.subject type c) f refl (sym i) j) a_class))

  from_a_domain : (c q : ℕ) → Reach S sub_property_of f.property q → Memᴰ (triple q domain c) S → t.subject ≡ f.subject → t.property ≡ type → Reach S sub_class_of c t.object → Reformulated S F a t
  from_a_domain c q u d p i r =
      by_kind 2 f.property t.object (triple f.subject type t.object) (triple_eq t (triple f.subject type t.object) p i refl)
      (by_domain u d r (class_admitted a t e i)) Gives.of_subject

  to_subject : (c : ℕ) → SubjectStart S f c → t.subject ≡ f.subject → t.property ≡ type → Reach S sub_class_of c t.object → Reformulated S F a t
  to_subject c (from_type i j) p q r = from_a_type c i j p q r
  to_subject c (from_domain z u d) p q r = from_a_domain c z u d p q r

  to_object : (c q : ℕ) → is_literal f.object ≡ false → Reach S sub_property_of f.property q → Memᴰ (triple q range c) S → t.subject ≡ f.object → t.property ≡ type → Reach S sub_class_of c t.object → Reformulated S F a t
  to_object c q l u d p i r =
      by_kind 3 f.property t.object (triple f.object type t.object) (triple_eq t (triple f.object type t.object) p i refl)
      (by_range u d r (class_admitted a t e i)) (Gives.of_object l)

of_part : (S F : List Triple) (a t f : Triple) → Memᴰ f F → admits_triple a t ≡ true → Part S f t → Reformulated S F a t
of_part S F a t f m e (as_property p q r) = to_property S F a t f m e p q r
of_part S F a t f m e (as_subject p q r) = to_subject S F a t f m e r.start ((start_iff S f r.start).0 r.listed) p q r.path
of_part S F a t f m e (as_object p q l r) =
    let s = (objects_iff S range (properties S f) r.start).0 r.listed in
    to_object S F a t f m e r.start s.start l ((properties_iff S f s.start).0 s.listed) s.stated p q r.path

-- What holds and is admitted by the atom, some alternative gives.
holds_reformulated : (S F : List Triple) (a t : Triple) → NoVocabulary S → admits_triple a t ≡ true → Holds S F t → Reformulated S F a t
holds_reformulated S F a t w e h =
    let c = (holds_iff-carried S F t).0 h in
    of_part S F a t c.fact c.explicit_fact e ((carried_part S c.fact t).0 ((carried_iff S c.fact t w).1 c.carries))

-- Among the triples that an atom admits, its alternatives give exactly those that hold.
facts_exact : (S F : List Triple) (a t : Triple) → NoVocabulary S → admits_triple a t ≡ true → Reformulated S F a t ↔ Holds S F t
facts_exact S F a t w e = (reformulated_holds S F a t, holds_reformulated S F a t w e)

-- ---- statements

-- Of more explicit triples no less is given.
reformulated_mono : {S F G : List Triple} {a t : Triple} → ((u : Triple) → Memᴰ u F → Memᴰ u G) → Reformulated S F a t → Reformulated S G a t
reformulated_mono h r = record {
  kind = r.kind;
  source = r.source;
  target = r.target;
  fact = r.fact;
  alternative = r.alternative;
  listed = h r.fact r.listed;
  gives = r.gives;
}

module _ {S : List Triple} (v : (u : Triple) → Memᴰ u S → is_allowed_statement u ≡ true) where
  -- A source of kinds 1 to 4 is the subject of a statement, and so no vocabulary URI.
  source_no_vocabulary : {a : Triple} (k s g : ℕ) → 0 < k → IsAlternative S a k s g → is_vocabulary s ≡ false
  source_no_vocabulary k s g h i =
      ⊎_elim
      (λ q. absurd (omega (arith, of_subject q)))
      (λ b. rw b.1.is at (allowed_no_vocabulary S v b.1.statement b.1.stated).0)
      (source_begins i)

  -- A statement's property is no such source,
  no_source : (x p y : ℕ) → is_vocabulary p ≡ false → is_allowed_statement (triple x p y) ≡ true → ⊥
  no_source x p y n m = let h = statement_property (triple x p y) (allowed_statement (triple x p y) m) in not_vocabulary n (omega (arith, h.0)) h.1

  -- nor is it rdf:type:
  no_type : (x c : ℕ) → is_allowed_statement (triple x type c) ≡ true → ⊥
  no_type x c m = omega (arith, (statement_property (triple x type c) (allowed_statement (triple x type c) m)).0)

  -- kinds 1 to 4 give nothing of a statement, and kind 0 the statement itself.
  statement-given : {a f t : Triple} {k s g : ℕ} → IsAlternative S a k s g → is_allowed_statement f ≡ true → Gives k s g f t → f ≡ t
  statement-given i m itself = refl
  statement-given i m (a_class {x} {c} {d}) = absurd (no_type x c m)
  statement-given i m (Gives.of_subject {x} {p} {y} {d}) = absurd (no_source x p y (source_no_vocabulary 2 p d (omega arith) i) m)
  statement-given i m (Gives.of_object {x} {p} {y} {d} l) = absurd (no_source x p y (source_no_vocabulary 3 p d (omega arith) i) m)
  statement-given i m (a_property {x} {p} {q} {y}) = absurd (no_source x p y (source_no_vocabulary 4 p q (omega arith) i) m)

  -- ---- the theorem

  -- Over the closed statements and the explicit facts, the alternatives of an atom give exactly what follows and what the atom admits.
  pub reformulation_exact : (F : List Triple) (a t : Triple) → ((u : Triple) → Memᴰ u F → is_allowed_fact u ≡ true) → admits_triple a t ≡ true → Reformulated S (closed S ++ F) a t ↔ Follows (S ++ F) t
  reformulation_exact F a t w e =
      let x = facts_exact S F a t (allowed_no_vocabulary S v) e in
      let g = follows_iff v w t in (
        λ r. g.1 (⊎_elim
            (λ m. let h = (closed_iff S r.fact).0 m in inl (subst (Stated S) (statement-given r.alternative (stated_allowed v h) r.gives) h))
            (λ m. inr (x.0 (record { kind = r.kind; source = r.source; target = r.target; fact = r.fact; alternative = r.alternative; listed = m; gives = r.gives })))
            (Memᴰ.append_cases (closed S) r.listed)),
        λ f. ⊎_elim
            (λ h. by_itself S (closed S ++ F) a t t (Memᴰ.append_left F ((closed_iff S t).1 h)) e refl)
            (λ h. reformulated_mono (λ u. Memᴰ.append_right (closed S)) (x.1 h))
            (g.0 f),
      )
