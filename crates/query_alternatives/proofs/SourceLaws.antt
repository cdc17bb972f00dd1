-- What the two made-up facts of a source carry gives exactly the alternatives with that source. Assumes nothing.
use Prim.Native.Nat.{ℕ}
use mathlib.Core.Path.{◌≡◌, refl, sym, ap, ◌∙◌, subst}
use mathlib.Core.Bool.{Bool, true, false, ◌&&◌, not}
use mathlib.Core.Logic.{◌↔◌, ⊎_elim}
use mathlib.Core.List.Memᴰ
use mathlib.Core.List.{List, [], ◌∷◌, ◌++◌, flat_map, Memᴰ}
use native.Mathlib.Omega.{arith}
use lib.Dec.{eqb}
use borrow.Author.Tests.{eq-eqb, ne_eqb, eqb-false, not-true}
use Rattle.spec.specs.declared.Triple.{Triple}
use Rattle.spec.specs.Terms.{type, sub_class_of, range, is_literal, is_vocabulary, triple}
use Rattle.spec.specs.inside.Comparison.{triple_eq}
use Rattle.spec.proofs.Lists.{select_in, select_out, flat_map_in, flat_map_out}
use Rattle.spec.proofs.Ascending.{and_left, and_right}
use Rattle.spec.specs.Rules.{Reach, stay, step}
use Rattle.spec.specs.inside.Entailment.{NoVocabulary}
use Rattle.spec.specs.computed.Carried.{properties, carried}
use Rattle.spec.proofs.Entailment.{not_vocabulary}
use Rattle.spec.proofs.Reach.{objects_iff}
use Rattle.spec.proofs.Carried.{properties_iff, SubjectStart, from_type, from_domain, start_iff, Part, as_property, as_subject, as_object, carried_part}
use Rattle.spec.specs.Alternatives.{IsAlternative, as_it_is, by_subclass, by_domain, by_range, by_subproperty}
use Rattle.spec.specs.Questions.{admits_class, admits}
use Rattle.spec.specs.Lists.{select}
use Rattle.spec.specs.computed.Reformulated.{alternatives_from}
use Rattle.spec.proofs.Alternatives.{from_sound, from_complete}
use Rattle.query_alternatives.specs.inside.Putting.{property_fact, class_fact, alternative_by, admits_target, are_ends, qualifies, given}

-- ---- vocabulary

-- From rdf:type nothing else is reached: no statement has it on a side.
from-type_stays : {S : List Triple} {k y : ℕ} → NoVocabulary S → Reach S k type y → y ≡ type
from-type_stays w stay = refl
from-type_stays w (step {b} r m) = let e : b ≡ 1 = from-type_stays w r in absurd (not_vocabulary (w _ m).0 (omega arith) (omega arith))

-- No statement has rdf:type as its subject.
no_type-subject : {S : List Triple} {b k c : ℕ} {X : Type 0} → NoVocabulary S → Memᴰ (triple b k c) S → b ≡ type → X
no_type-subject w m e = absurd (not_vocabulary (w _ m).0 (omega arith) (omega arith))

-- From a term that is no vocabulary rdf:type is not reached.
never-type : {S : List Triple} {k x y : ℕ} → NoVocabulary S → is_vocabulary x ≡ false → Reach S k x y → ¬ (y ≡ type)
never-type w v stay e = not_vocabulary v (omega arith) (omega arith)
never-type w v (step r m) e = not_vocabulary (w _ m).1 (omega arith) (omega arith)

-- ---- a carried row

module _ (x : ℕ) where
  -- A class of the term k.
  pub by_class : (t : Triple) (k : ℕ) → t.subject ≡ k → t.property ≡ type → alternative_by x t ≡ triple k x t.object
  unfolding alternative_by
  by_class t k e h = rw (eq-eqb t.property type h, e)

  -- Another property.
  pub by_other : (t : Triple) → ¬ (t.property ≡ type) → alternative_by x t ≡ triple 4 x t.property
  unfolding alternative_by
  by_other t n = rw (ne_eqb t.property type n)

module _ (a : Triple) (x : ℕ) where
  -- What a row gives is its alternative, which qualifies.
  given_out : (t u : Triple) → Memᴰ u (given a x t) → (u ≡ alternative_by x t) × (qualifies a u ≡ true)
  unfolding given
  given_out t u m = let r = select_out (qualifies a) (alternative_by x t ∷ []) m in (Memᴰ.eq_of_singleton r.0, r.1)

  -- It is given where it qualifies.
  given_in : (t u : Triple) → u ≡ alternative_by x t → qualifies a u ≡ true → Memᴰ u (given a x t)
  unfolding given
  given_in t u e q = select_in (qualifies a) (alternative_by x t ∷ []) (Memᴰ.head e) q

  -- A row gives nothing where its alternative does not qualify, as the code tells it, and else that.
  pub given_unfit : (t u : Triple) (q : Bool) → u ≡ alternative_by x t → q ≡ qualifies a u → q ≡ false → given a x t ≡ []
  unfolding given select
  given_unfit t u q e f h = let g : qualifies a (alternative_by x t) ≡ false = ap (qualifies a) (sym e) ∙ sym f ∙ h in rw g

  pub given_fit : (t u : Triple) (q : Bool) → u ≡ alternative_by x t → q ≡ qualifies a u → q ≡ true → given a x t ≡ u ∷ []
  unfolding given select
  given_fit t u q e f h = let g : qualifies a (alternative_by x t) ≡ true = ap (qualifies a) (sym e) ∙ sym f ∙ h in rw (g, e)

  -- Ends that are told apart differ.
  different : (d : ℕ) → not (eqb x d) ≡ true → ¬ (x ≡ d)
  different d e = eqb-false x d (not-true (eqb x d) e)

  -- What qualifies, kind by kind.
  qualified_1 : (d : ℕ) → qualifies a (triple 1 x d) ≡ true → (admits_class a d ≡ true) × (¬ (x ≡ d))
  unfolding qualifies admits_target are_ends
  qualified_1 d e = (and_left (admits_class a d) _ e, different d (and_right (admits_class a d) _ e))

  qualified_2 : (d : ℕ) → qualifies a (triple 2 x d) ≡ true → admits_class a d ≡ true
  unfolding qualifies admits_target are_ends
  qualified_2 d e = and_left (admits_class a d) _ e

  qualified_3 : (d : ℕ) → qualifies a (triple 3 x d) ≡ true → admits_class a d ≡ true
  unfolding qualifies admits_target are_ends
  qualified_3 d e = and_left (admits_class a d) _ e

  qualified_4 : (q : ℕ) → qualifies a (triple 4 x q) ≡ true → (admits a.property q ≡ true) × (¬ (x ≡ q))
  unfolding qualifies admits_target are_ends
  qualified_4 q e = (and_left (admits a.property q) _ e, different q (and_right (admits a.property q) _ e))

  -- What it takes to qualify, kind by kind.
  qualifies_1 : (d : ℕ) → admits_class a d ≡ true → ¬ (x ≡ d) → qualifies a (triple 1 x d) ≡ true
  unfolding qualifies admits_target are_ends
  qualifies_1 d e n = rw (e, ne_eqb x d n)

  qualifies_2 : (d : ℕ) → admits_class a d ≡ true → qualifies a (triple 2 x d) ≡ true
  unfolding qualifies admits_target are_ends
  qualifies_2 d e = rw e

  qualifies_3 : (d : ℕ) → admits_class a d ≡ true → qualifies a (triple 3 x d) ≡ true
  unfolding qualifies admits_target are_ends
  qualifies_3 d e = rw e

  qualifies_4 : (q : ℕ) → admits a.property q ≡ true → ¬ (x ≡ q) → qualifies a (triple 4 x q) ≡ true
  unfolding qualifies admits_target are_ends
  qualifies_4 q e n = rw (e, ne_eqb x q n)

-- Kind 4 has a property as its target, as the code asks.
pub target_property : (a u : Triple) → u.subject ≡ 4 → admits a.property u.object ≡ admits_target a u
unfolding admits_target
target_property a u e = rw (eq-eqb u.subject 4 e)

-- The others have a class.
pub target_class : (a u : Triple) → ¬ (u.subject ≡ 4) → (admits a.property type && admits a.object u.object) ≡ admits_target a u
unfolding admits_target
target_class a u n = rw (ne_eqb u.subject 4 n)

-- ---- what the two facts give

-- The alternatives that the rows carried by both facts of a source give.
abbrev pub carried_alternatives : List Triple → Triple → ℕ → List Triple
carried_alternatives S a x = flat_map (given a x) (carried S (class_fact x)) ++ flat_map (given a x) (carried S (property_fact x))

module _ (S : List Triple) (a : Triple) (x : ℕ) (N : NoVocabulary S) where
  -- An alternative with the source stands in its list.
  listed : (k d : ℕ) (u : Triple) → u ≡ triple k x d → ¬ (k ≡ 0) → IsAlternative S a k x d → Memᴰ u (alternatives_from S a x)
  listed k d u e z i = Memᴰ.cast e (from_complete S a k x d z i)

  -- What is reached from a class of a thing in the class x is reached from x.
  class_path : {c d : ℕ} → SubjectStart S (class_fact x) c → Reach S sub_class_of c d → Reach S sub_class_of x d
  class_path {d} (from_type _ g) r = subst (λ (y : ℕ). Reach S sub_class_of y d) g r
  class_path (from_domain q r m) _ = no_type-subject N m (from-type_stays N r)

  -- What the fact of a class gives is an alternative.
  class_sound : (t u : Triple) → Part S (class_fact x) t → u ≡ alternative_by x t → qualifies a u ≡ true → Memᴰ u (alternatives_from S a x)
  class_sound t u (as_property e g r) i q =
      let f : u ≡ triple 1 x t.object = i ∙ by_class x t 1 e (from-type_stays N r) in
      absurd ((qualified_1 a x t.object (ap (qualifies a) (sym f) ∙ q)).1 (sym g))
  class_sound t u (as_subject e p r) i q =
      let f : u ≡ triple 1 x t.object = i ∙ by_class x t 1 e p in
      let h = qualified_1 a x t.object (ap (qualifies a) (sym f) ∙ q) in
      listed 1 t.object u f (λ z. omega arith) (by_subclass (class_path ((start_iff S (class_fact x) r.start).0 r.listed) r.path) h.1 h.0)
  class_sound t u (as_object e p n r) i q =
      let s = (objects_iff S range (properties S (class_fact x)) r.start).0 r.listed in
      no_type-subject N s.stated (from-type_stays N ((properties_iff S (class_fact x) s.start).0 s.listed))

  module _ (v : is_vocabulary x ≡ false) where
    -- A class of the subject of the property x comes of a domain.
    domain-path : {c d : ℕ} → SubjectStart S (property_fact x) c → Reach S sub_class_of c d → admits_class a d ≡ true → IsAlternative S a 2 x d
    domain-path (from_type e _) p h = absurd (not_vocabulary v (omega arith) (omega arith))
    domain-path (from_domain q r m) p h = by_domain r m p h

    -- So is what the fact of a property gives.
    property-sound : (t u : Triple) → Part S (property_fact x) t → u ≡ alternative_by x t → qualifies a u ≡ true → Memᴰ u (alternatives_from S a x)
    property-sound t u (as_property e g r) i q =
        let f : u ≡ triple 4 x t.property = i ∙ by_other x t (never-type N v r) in
        let h = qualified_4 a x t.property (ap (qualifies a) (sym f) ∙ q) in
        listed 4 t.property u f (λ z. omega arith) (by_subproperty r h.1 h.0)
    property-sound t u (as_subject e p r) i q =
        let f : u ≡ triple 2 x t.object = i ∙ by_class x t 2 e p in
        listed 2 t.object u f (λ z. omega arith) (domain-path ((start_iff S (property_fact x) r.start).0 r.listed) r.path (qualified_2 a x t.object (ap (qualifies a) (sym f) ∙ q)))
    property-sound t u (as_object e p n r) i q =
        let f : u ≡ triple 3 x t.object = i ∙ by_class x t 3 e p in
        let s = (objects_iff S range (properties S (property_fact x)) r.start).0 r.listed in
        listed 3 t.object u f (λ z. omega arith)
        (by_range ((properties_iff S (property_fact x) s.start).0 s.listed) s.stated r.path (qualified_3 a x t.object (ap (qualifies a) (sym f) ∙ q)))

-- The terms of the made-up facts are no literals.
range_no_literal : is_literal 3 ≡ false
unfolding is_literal
range_no_literal = refl

module _ (S : List Triple) (a : Triple) where
  -- What a row gives that the fact of a class carries is there.
  of_class : (x : ℕ) (t u : Triple) → Part S (class_fact x) t → Memᴰ u (given a x t) → Memᴰ u (carried_alternatives S a x)
  of_class x t u p g = Memᴰ.append_left _ (flat_map_in (given a x) (carried S (class_fact x)) ((carried_part S (class_fact x) t).1 p) g)

  -- So is what a row gives that the fact of a property carries.
  of_property_fact : (x : ℕ) (t u : Triple) → Part S (property_fact x) t → Memᴰ u (given a x t) → Memᴰ u (carried_alternatives S a x)
  of_property_fact x t u p g = Memᴰ.append_right (flat_map (given a x) (carried S (class_fact x))) (flat_map_in (given a x) (carried S (property_fact x)) ((carried_part S (property_fact x) t).1 p) g)

  -- Each alternative is given.
  all-given : (k s t : ℕ) → NoVocabulary S → is_vocabulary s ≡ false → ¬ (k ≡ 0) → IsAlternative S a k s t → Memᴰ (triple k s t) (carried_alternatives S a s)
  all-given k s t N v z as_it_is = absurd (z refl)
  all-given k s t N v z (by_subclass {c} {d} r n e) =
      of_class c (triple 1 type d) (triple 1 c d)
      (as_subject refl refl (record { start = c; listed = (start_iff S (class_fact c) c).1 (from_type refl refl); path = r }))
      (given_in a c (triple 1 type d) (triple 1 c d) (sym (by_class c (triple 1 type d) 1 refl refl)) (qualifies_1 a c d e n))
  all-given k s t N v z (by_domain {p} {q} {c} {d} u m r e) =
      of_property_fact p (triple 2 type d) (triple 2 p d)
      (as_subject refl refl (record { start = c; listed = (start_iff S (property_fact p) c).1 (from_domain q u m); path = r }))
      (given_in a p (triple 2 type d) (triple 2 p d) (sym (by_class p (triple 2 type d) 2 refl refl)) (qualifies_2 a p d e))
  all-given k s t N v z (by_range {p} {q} {c} {d} u m r e) =
      of_property_fact p (triple 3 type d) (triple 3 p d)
      (as_object refl refl range_no_literal (record { start = c; listed = (objects_iff S range (properties S (property_fact p)) c).1 (record { start = q; listed = (properties_iff S (property_fact p) q).1 u; stated = m }); path = r }))
      (given_in a p (triple 3 type d) (triple 3 p d) (sym (by_class p (triple 3 type d) 3 refl refl)) (qualifies_3 a p d e))
  all-given k s t N v z (by_subproperty {p} {q} r n e) =
      of_property_fact p (triple 2 q 3) (triple 4 p q) (as_property refl refl r)
      (given_in a p (triple 2 q 3) (triple 4 p q) (sym (by_other p (triple 2 q 3) (never-type N v r))) (qualifies_4 a p q e n))

  -- The two facts of a source that is no vocabulary give exactly its alternatives.
  pub source_iff : (x : ℕ) → NoVocabulary S → is_vocabulary x ≡ false → (u : Triple) → Memᴰ u (carried_alternatives S a x) ↔ Memᴰ u (alternatives_from S a x)
  source_iff x N v u = (sound, complete)
    where
      sound : Memᴰ u (carried_alternatives S a x) → Memᴰ u (alternatives_from S a x)
      sound m =
          ⊎_elim
          (λ i.
          let r = flat_map_out (given a x) (carried S (class_fact x)) i in
          let g = given_out a x r.from u r.gives in
          class_sound S a x N r.from u ((carried_part S (class_fact x) r.from).0 r.listed) g.0 g.1)
          (λ i.
          let r = flat_map_out (given a x) (carried S (property_fact x)) i in
          let g = given_out a x r.from u r.gives in
          property-sound S a x N v r.from u ((carried_part S (property_fact x) r.from).0 r.listed) g.0 g.1)
          (Memᴰ.append_cases (flat_map (given a x) (carried S (class_fact x))) m)

      complete : Memᴰ u (alternatives_from S a x) → Memᴰ u (carried_alternatives S a x)
      complete m =
          let f = from_sound S a x u m in
          subst (λ (y : ℕ). Memᴰ u (carried_alternatives S a y)) f.0
          (Memᴰ.cast (triple_eq u (triple u.subject u.property u.object) refl refl refl) (all-given u.subject u.property u.object N (ap is_vocabulary f.0 ∙ v) f.1.0 f.1.1))
