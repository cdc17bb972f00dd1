-- `carried` lists exactly what one fact carries: ascending, each once, at most one row and two for each statement. Assumes nothing.
use mathlib.Core.Path.{◌≡◌, refl, sym, ◌∙◌, subst}
use mathlib.Core.Bool.{Bool, true, false, cond}
use mathlib.Core.List.Memᴰ
use mathlib.Core.List.{List, [], ◌∷◌, ◌++◌, map, Memᴰ}
use mathlib.Core.Logic.{◌⊎◌, inl, inr, ⊎_elim, ◌↔◌}
use Prim.Native.Nat.{ℕ, ◌+◌, ◌*◌, ◌≤◌}
use native.Mathlib.Decide.{ℕ_discrete}
use native.Mathlib.Omega.{arith}
use lib.ListN.{length, length-append, length-map}
use lib.Dec.{eqb}
use borrow.Author.Tests.{eqb-true, eqb-false}
use Rattle.spec.specs.declared.Triple.{Triple}
use Rattle.spec.specs.Terms.{type, sub_class_of, sub_property_of, domain, range, is_literal, triple}
use Rattle.spec.specs.inside.Comparison.{triple_eq, choose, Ascending}
use Rattle.spec.proofs.Lists.{cond_elim}
use Rattle.spec.proofs.Order.{of_subject, of_property, of_object, choose_yes, choose_no}
use Rattle.spec.proofs.Ascending.{ascend_asc, ascend_in, ascend_out}
use Rattle.spec.specs.inside.Entailment.{explicit, rdfs2, rdfs3, rdfs7, rdfs9, HoldsBy, ReachFrom, NoVocabulary}
use Rattle.spec.specs.Rules.{Reach, stay, step}
use Rattle.spec.specs.computed.Carried.{objects, properties, subject_classes, object_classes, conclusions, carried}
use Rattle.spec.proofs.Sets.{Distinct, ascending-distinct, distinct-length}
use Rattle.spec.proofs.Reach.{objects_in, objects_out, from_step, spread_iff, reach_iff}
use Rattle.spec.proofs.Entailment.{not_vocabulary}

-- What one fact carries stands ascending,
pub carried_ascends : (S : List Triple) (f : Triple) → Ascending (carried S f)
unfolding carried
carried_ascends S f = ascend_asc (conclusions S f)

-- each triple once.
pub carried-distinct : (S : List Triple) (f : Triple) → Distinct (carried S f)
carried-distinct S f = ascending-distinct (carried S f) (carried_ascends S f)

-- ---- the properties of a fact, and the classes that it gives

-- `properties` lists exactly the properties reached from the fact's own by subproperty steps.
pub properties_iff : (S : List Triple) (f : Triple) (q : ℕ) → Memᴰ q (properties S f) ↔ Reach S sub_property_of f.property q
unfolding properties
properties_iff S f q = reach_iff S sub_property_of f.property q

-- The classes that a fact gives its subject before any subclass step: its object, where it is a typing, and its properties' domains.
abbrev pub subject_starts : List Triple → Triple → List ℕ
subject_starts S f = cond (eqb f.property type) (f.object ∷ []) [] ++ objects S domain (properties S f)

-- One of these classes, by what gives it.
pub data SubjectStart (S : List Triple) (f : Triple) (c : ℕ) : Type 0 where
  from_type : f.property ≡ type → c ≡ f.object → SubjectStart S f c
  from_domain : (q : ℕ) → Reach S sub_property_of f.property q → Memᴰ (triple q domain c) S → SubjectStart S f c

-- Such a class is listed.
start_in : (S : List Triple) (f : Triple) (c : ℕ) → SubjectStart S f c → Memᴰ c (subject_starts S f)
start_in S f c (from_type e g) = Memᴰ.append_left _ (cond_elim (Memᴰ c) (eqb f.property type) (λ _. Memᴰ.head g) (λ n. absurd (eqb-false f.property type n e)))
start_in S f c (from_domain q r m) = Memᴰ.append_right (cond (eqb f.property type) (f.object ∷ []) []) (objects_in S domain (properties S f) c q ((properties_iff S f q).1 r) m)

-- Only such classes are listed.
start_out : (S : List Triple) (f : Triple) (c : ℕ) → Memᴰ c (subject_starts S f) → SubjectStart S f c
start_out S f c m =
    ⊎_elim
    (cond_elim (λ (l : List ℕ). Memᴰ c l → SubjectStart S f c) (eqb f.property type) (λ e i. from_type (eqb-true f.property type e) (Memᴰ.eq_of_singleton i)) (λ _ i. absurd (Memᴰ.not-nil i)))
    (λ i. let r = objects_out S domain (properties S f) c i in from_domain r.start ((properties_iff S f r.start).0 r.listed) r.stated)
    (Memᴰ.append_cases (cond (eqb f.property type) (f.object ∷ []) []) m)

-- `subject_starts` lists exactly these classes.
pub start_iff : (S : List Triple) (f : Triple) (c : ℕ) → Memᴰ c (subject_starts S f) ↔ SubjectStart S f c
start_iff S f c = (start_out S f c, start_in S f c)

-- `subject_classes` lists exactly what is reached from these by subclass steps.
pub subject_iff : (S : List Triple) (f : Triple) (c : ℕ) → Memᴰ c (subject_classes S f) ↔ ReachFrom S sub_class_of (subject_starts S f) c
unfolding subject_classes
subject_iff S f c = spread_iff S sub_class_of (subject_starts S f) c

-- A list that is left out where b is true.
unless_in : {c : ℕ} (b : Bool) (l : List ℕ) → b ≡ false → Memᴰ c l → Memᴰ c (cond b [] l)
unless_in b l e m = rw e m

-- What is listed there, is listed with b false.
unless_out : {c : ℕ} (b : Bool) (l : List ℕ) → Memᴰ c (cond b [] l) → (b ≡ false) × Memᴰ c l
unless_out true l m = absurd (Memᴰ.not-nil m)
unless_out false l m = (refl, m)

-- `object_classes` lists exactly what is reached by subclass steps from the ranges of the fact's properties, and nothing for a literal.
pub object_iff : (S : List Triple) (f : Triple) (c : ℕ) → Memᴰ c (object_classes S f) ↔ ((is_literal f.object ≡ false) × ReachFrom S sub_class_of (objects S range (properties S f)) c)
unfolding object_classes
object_iff S f c = (
  λ m. let r = unless_out (is_literal f.object) _ m in (r.0, (spread_iff S sub_class_of (objects S range (properties S f)) c).0 r.1),
  λ r. unless_in (is_literal f.object) _ r.0 ((spread_iff S sub_class_of (objects S range (properties S f)) c).1 r.1),
)

-- ---- the three parts of what is carried

-- t is f under a property that its own is below; or a class of f's subject; or a class of f's object, which is no literal.
pub data Part (S : List Triple) (f t : Triple) : Type 0 where
  as_property : t.subject ≡ f.subject → t.object ≡ f.object → Reach S sub_property_of f.property t.property → Part S f t
  as_subject : t.subject ≡ f.subject → t.property ≡ type → ReachFrom S sub_class_of (subject_starts S f) t.object → Part S f t
  as_object : t.subject ≡ f.object → t.property ≡ type → is_literal f.object ≡ false → ReachFrom S sub_class_of (objects S range (properties S f)) t.object → Part S f t

-- Each part is listed,
pub part_in : (S : List Triple) (f t : Triple) → Part S f t → Memᴰ t (conclusions S f)
unfolding conclusions
part_in S f t (as_property a b r) =
    Memᴰ.append_left _
    (Memᴰ.cast (triple_eq t (triple f.subject t.property f.object) a refl b)
    (Memᴰ.map (λ q. triple f.subject q f.object) ((properties_iff S f t.property).1 r)))
part_in S f t (as_subject a b r) =
    Memᴰ.append_right (map (λ q. triple f.subject q f.object) (properties S f))
    (Memᴰ.append_left _
    (Memᴰ.cast (triple_eq t (triple f.subject type t.object) a b refl)
    (Memᴰ.map (λ c. triple f.subject type c) ((subject_iff S f t.object).1 r))))
part_in S f t (as_object a b n r) =
    Memᴰ.append_right (map (λ q. triple f.subject q f.object) (properties S f))
    (Memᴰ.append_right (map (λ c. triple f.subject type c) (subject_classes S f))
    (Memᴰ.cast (triple_eq t (triple f.object type t.object) a b refl)
    (Memᴰ.map (λ c. triple f.object type c) ((object_iff S f t.object).1 (n, r)))))

-- and nothing else is.
pub part_out : (S : List Triple) (f t : Triple) → Memᴰ t (conclusions S f) → Part S f t
unfolding conclusions
part_out S f t m =
    ⊎_elim
    (λ i.
    let r = Memᴰ.of_map (λ q. triple f.subject q f.object) (properties S f) i in
    let e = sym r.2 in
    as_property (of_subject e) (of_object e) ((properties_iff S f t.property).0 (Memᴰ.cast (of_property e) r.1)))
    (λ i. ⊎_elim
    (λ j.
    let r = Memᴰ.of_map (λ c. triple f.subject type c) (subject_classes S f) j in
    let e = sym r.2 in
    as_subject (of_subject e) (of_property e) ((subject_iff S f t.object).0 (Memᴰ.cast (of_object e) r.1)))
    (λ j.
    let r = Memᴰ.of_map (λ c. triple f.object type c) (object_classes S f) j in
    let e = sym r.2 in
    let n = (object_iff S f t.object).0 (Memᴰ.cast (of_object e) r.1) in
    as_object (of_subject e) (of_property e) n.0 n.1)
    (Memᴰ.append_cases (map (λ c. triple f.subject type c) (subject_classes S f)) i))
    (Memᴰ.append_cases (map (λ q. triple f.subject q f.object) (properties S f)) m)

-- `conclusions` lists exactly the three parts,
pub conclusions_iff : (S : List Triple) (f t : Triple) → Memᴰ t (conclusions S f) ↔ Part S f t
conclusions_iff S f t = (part_out S f t, part_in S f t)

-- and so does `carried`, for any statements.
pub carried_part : (S : List Triple) (f t : Triple) → Memᴰ t (carried S f) ↔ Part S f t
unfolding carried
carried_part S f t = (λ m. part_out S f t (ascend_out (conclusions S f) m), λ h. ascend_in (conclusions S f) (part_in S f t h))

-- ---- what is listed is derived

-- A fact carries itself under each property that its own is below.
carries_property : (S : List Triple) (f : Triple) {q : ℕ} → Reach S sub_property_of f.property q → HoldsBy S f (triple f.subject q f.object)
carries_property S f stay = explicit (Memᴰ.head refl)
carries_property S f (step r m) = rdfs7 m (carries_property S f r)

-- With a class, each class above it is carried.
carries_class : {S : List Triple} {f : Triple} {a b c : ℕ} → HoldsBy S f (triple a type b) → Reach S sub_class_of b c → HoldsBy S f (triple a type c)
carries_class d stay = d
carries_class d (step r m) = rdfs9 m (carries_class d r)

-- The classes before any subclass step are carried.
carries_start : (S : List Triple) (f : Triple) (c : ℕ) → SubjectStart S f c → HoldsBy S f (triple f.subject type c)
carries_start S f c (from_type e g) = explicit (Memᴰ.head (triple_eq (triple f.subject type c) f refl (sym e) g))
carries_start S f c (from_domain q r m) = rdfs2 m (carries_property S f r)

-- Each part is carried.
part_sound : (S : List Triple) (f t : Triple) → Part S f t → HoldsBy S f t
part_sound S f t (as_property a b r) = subst (HoldsBy S f) (triple_eq (triple f.subject t.property f.object) t (sym a) refl (sym b)) (carries_property S f r)
part_sound S f t (as_subject a b r) =
    subst (HoldsBy S f) (triple_eq (triple f.subject type t.object) t (sym a) (sym b) refl)
    (carries_class (carries_start S f r.start (start_out S f r.start r.listed)) r.path)
part_sound S f t (as_object a b n r) =
    let h = objects_out S range (properties S f) r.start r.listed in
    subst (HoldsBy S f) (triple_eq (triple f.object type t.object) t (sym a) (sym b) refl)
    (carries_class (rdfs3 h.stated n (carries_property S f ((properties_iff S f h.start).0 h.listed))) r.path)

-- ---- what is derived is listed

-- A path of subproperties that ends at 1 is empty: no statement has 1 on a side.
to_type : {S : List Triple} {p q : ℕ} → NoVocabulary S → q ≡ type → Reach S sub_property_of p q → p ≡ type
to_type w e stay = e
to_type w e (step r m) = absurd (not_vocabulary (w _ m).1 (omega arith) (omega arith))

-- A statement whose subject is rdf:type is not there.
not_type : {S : List Triple} {p k c : ℕ} {X : Type 0} → NoVocabulary S → Memᴰ (triple p k c) S → p ≡ type → X
not_type w m e = absurd (not_vocabulary (w _ m).0 (omega arith) (omega arith))

-- With no subclass step, a class is reached from itself.
subject_from_lem : (S : List Triple) (f : Triple) (c : ℕ) → SubjectStart S f c → ReachFrom S sub_class_of (subject_starts S f) c
subject_from_lem S f c s = record { start = c; listed = start_in S f c s; path = stay }

-- A subclass statement leads from a part to a part,
by_class : {S : List Triple} {f : Triple} {a c : ℕ} (d : ℕ) → NoVocabulary S → Memᴰ (triple c sub_class_of d) S → Part S f (triple a type c) → Part S f (triple a type d)
by_class {S} {f} {c} d w m (as_property e g r) = as_subject e refl (from_step m (subject_from_lem S f c (from_type (to_type w refl r) g)))
by_class d w m (as_subject e g r) = as_subject e refl (from_step m r)
by_class d w m (as_object e g n r) = as_object e refl n (from_step m r)

-- a subproperty statement does,
by_property : {S : List Triple} {f : Triple} {a b p : ℕ} (q : ℕ) → NoVocabulary S → Memᴰ (triple p sub_property_of q) S → Part S f (triple a p b) → Part S f (triple a q b)
by_property q w m (as_property e g r) = as_property e g (step r m)
by_property q w m (as_subject e g i) = not_type w m g
by_property q w m (as_object e g n i) = not_type w m g

-- a domain does,
by_domain : {S : List Triple} {f : Triple} {a b p : ℕ} (c : ℕ) → NoVocabulary S → Memᴰ (triple p domain c) S → Part S f (triple a p b) → Part S f (triple a type c)
by_domain {S} {f} {p = q} c w m (as_property e g r) = as_subject e refl (subject_from_lem S f c (from_domain q r m))
by_domain c w m (as_subject e g i) = not_type w m g
by_domain c w m (as_object e g n i) = not_type w m g

-- and a range, where the object is no literal.
by_range : {S : List Triple} {f : Triple} {a b p : ℕ} (c : ℕ) → NoVocabulary S → Memᴰ (triple p range c) S → is_literal b ≡ false → Part S f (triple a p b) → Part S f (triple b type c)
by_range {S} {f} {p = q} c w m n (as_property e g r) =
    as_object g refl (rw g at n) (record { start = c; listed = objects_in S range (properties S f) c q ((properties_iff S f q).1 r) m; path = stay })
by_range c w m n (as_subject e g i) = not_type w m g
by_range c w m n (as_object e g l i) = not_type w m g

-- All that is carried is a part.
part_complete : {S : List Triple} {f t : Triple} → NoVocabulary S → HoldsBy S f t → Part S f t
part_complete w (explicit m) = let e = Memᴰ.eq_of_singleton m in as_property (of_subject e) (of_object e) (rw (of_property e) stay)
part_complete w (rdfs2 {c} m h) = by_domain c w m (part_complete w h)
part_complete w (rdfs3 {c} m n h) = by_range c w m n (part_complete w h)
part_complete w (rdfs7 {q} m h) = by_property q w m (part_complete w h)
part_complete w (rdfs9 {d} m h) = by_class d w m (part_complete w h)

-- `carried` lists exactly what the fact carries.
pub carried_iff : (S : List Triple) (f t : Triple) → NoVocabulary S → Memᴰ t (carried S f) ↔ HoldsBy S f t
carried_iff S f t w = (λ m. part_sound S f t ((carried_part S f t).0 m), λ h. (carried_part S f t).1 (part_complete w h))

-- A fact carries itself.
pub carried_itself : (S : List Triple) (f : Triple) → Memᴰ f (carried S f)
carried_itself S f = (carried_part S f f).1 (as_property refl refl stay)

-- ---- how many rows one fact carries: each ends in the object of its last step

-- The row that a last step u gives with the subject of f.
subject_row : Triple → Triple → Triple
subject_row f u = choose (ℕ_discrete u.property sub_property_of) (triple f.subject u.object f.object) (triple f.subject type u.object)

-- The row that it gives with the object of f.
object_row : Triple → Triple → Triple
object_row f u = triple f.object type u.object

-- f itself, and the two rows of each statement.
candidates : List Triple → Triple → List Triple
candidates S f = f ∷ (map (subject_row f) S ++ map (object_row f) S)

-- Their number.
candidates-length : (S : List Triple) (f : Triple) → length (candidates S f) ≡ 1 + 2 * length S
unfolding candidates
candidates-length S f = omega (arith, length-append (map (subject_row f) S) (map (object_row f) S), length-map S (subject_row f), length-map S (object_row f))

-- A path is empty, or has a last step.
last_step : {S : List Triple} {k a b : ℕ} → Reach S k a b → (b ≡ a) ⊎ ((c : ℕ) × Memᴰ (triple c k b) S)
last_step stay = inl refl
last_step (step {b} r m) = inr (b, m)

-- A statement of property 3 gives a row of another property.
property-row : (f t : Triple) (b : ℕ) → t.subject ≡ f.subject → t.object ≡ f.object → t ≡ subject_row f (triple b sub_property_of t.property)
unfolding subject_row
property-row f t b e g = triple_eq t (triple f.subject t.property f.object) e refl g ∙ sym (choose_yes (ℕ_discrete 3 sub_property_of) _ _ refl)

-- Any other statement gives a class.
class-row : (f t : Triple) (b k : ℕ) → ¬ (k ≡ sub_property_of) → t.subject ≡ f.subject → t.property ≡ type → t ≡ subject_row f (triple b k t.object)
unfolding subject_row
class-row f t b k n e g = triple_eq t (triple f.subject type t.object) e g refl ∙ sym (choose_no (ℕ_discrete k sub_property_of) _ _ n)

module _ (S : List Triple) (f t : Triple) where
  -- A row that a statement gives with the subject is among them,
  of_subject-row : (u : Triple) → Memᴰ u S → t ≡ subject_row f u → Memᴰ t (candidates S f)
  unfolding candidates
  of_subject-row u m e = Memᴰ.tail (Memᴰ.append_left _ (Memᴰ.cast e (Memᴰ.map (subject_row f) m)))

  -- so is a row that a statement gives with the object,
  of_object-row : {b k : ℕ} → Memᴰ (triple b k t.object) S → t.subject ≡ f.object → t.property ≡ type → Memᴰ t (candidates S f)
  unfolding candidates object_row
  of_object-row {b} {k} m e g =
      Memᴰ.tail (Memᴰ.append_right (map (subject_row f) S)
      (Memᴰ.cast (triple_eq t (object_row f (triple b k t.object)) e g refl) (Memᴰ.map (object_row f) m)))

  -- and so is each part.
  part_candidate : Part S f t → Memᴰ t (candidates S f)
  unfolding candidates
  part_candidate (as_property e g r) =
      ⊎_elim
      (λ h. Memᴰ.head (triple_eq t f e h g))
      (λ l. of_subject-row _ l.1 (property-row f t l.0 e g))
      (last_step r)
  part_candidate (as_subject e g r) =
      ⊎_elim
      (λ h. of-start (start_out S f t.object (Memᴰ.cast h r.listed)))
      (λ l. of_subject-row _ l.1 (class-row f t l.0 sub_class_of (λ n. omega arith) e g))
      (last_step r.path)
    where
      of-start : SubjectStart S f t.object → Memᴰ t (candidates S f)
      of-start (from_type h c) = Memᴰ.head (triple_eq t f e (g ∙ sym h) c)
      of-start (from_domain q _ m) = of_subject-row _ m (class-row f t q domain (λ n. omega arith) e g)
  part_candidate (as_object e g n r) =
      ⊎_elim
      (λ h. of_object-row (objects_out S range (properties S f) t.object (Memᴰ.cast h r.listed)).stated e g)
      (λ l. of_object-row l.1 e g)
      (last_step r.path)

-- One fact carries at most itself and two rows for each statement.
pub carried-bound : (S : List Triple) (f : Triple) → length (carried S f) ≤ 1 + 2 * length S
carried-bound S f = omega (arith, distinct-length (carried S f) (candidates S f) (carried-distinct S f) (λ t m. part_candidate S f t ((carried_part S f t).0 m)), candidates-length S f)
