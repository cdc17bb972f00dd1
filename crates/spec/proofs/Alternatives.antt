-- The computed alternatives are exactly those of document 01, each once, ascending. Assumes nothing.
use mathlib.Core.Path.{◌≡◌, refl, sym, ap, ◌∙◌, subst}
use mathlib.Core.Bool.{Bool, true, not}
use mathlib.Core.Logic.{◌↔◌, ◌⊎◌, inl, inr, ⊎_elim}
use mathlib.Core.List.Memᴰ
use mathlib.Core.List.{List, [], ◌∷◌, map, flat_map, Memᴰ}
use Prim.Native.Nat.{ℕ}
use native.Mathlib.Omega.{arith}
use lib.Dec.{eqb}
use borrow.Author.Tests.{eqb-false, ne_eqb, not-true}
use Rattle.spec.specs.declared.Triple.{Triple}
use Rattle.spec.specs.Terms.{sub_class_of, sub_property_of, domain, range, triple}
use Rattle.spec.specs.inside.Comparison.{Ascending, triple_eq}
use Rattle.spec.proofs.Order.{of_subject, of_property, of_object}
use Rattle.spec.proofs.Lists.{select_in, select_out, flat_map_in, flat_map_out}
use Rattle.spec.proofs.Ascending.{ascend_asc, ascend_in, ascend_out}
use Rattle.spec.specs.Rules.{Reach, stay, step}
use Rattle.spec.specs.computed.Carried.{reach, spread, objects}
use Rattle.spec.proofs.Reach.{objects_iff, reach_iff, spread_iff}
use Rattle.spec.specs.Alternatives.{IsAlternative, as_it_is, by_subclass, by_domain, by_range, by_subproperty}
use Rattle.spec.specs.Questions.{admits_class, admits}
use Rattle.spec.specs.Lists.{select}
use Rattle.spec.specs.computed.Reformulated.{to_classes, to_properties, without, alternatives_from, alternatives}

-- ---- selections

without_in : (x y : ℕ) (l : List ℕ) → Memᴰ y l → ¬ (x ≡ y) → Memᴰ y (without x l)
unfolding without
without_in x y l m n = select_in (λ z. not (eqb x z)) l m (rw (ne_eqb x y n))

without_out : (x y : ℕ) (l : List ℕ) → Memᴰ y (without x l) → Memᴰ y l × (¬ (x ≡ y))
unfolding without
without_out x y l m = let r = select_out (λ z. not (eqb x z)) l m in (r.0, eqb-false x y (not-true (eqb x y) r.1))

-- ---- one kind, one source

-- A row of a kind and a source whose target is listed and admitted.
record Row (test : ℕ → Bool) (kind source : ℕ) (l : List ℕ) (u : Triple) : Type 0 where
  is_kind : u.subject ≡ kind
  is_source : u.property ≡ source
  listed : Memᴰ u.object l
  admitted : test u.object ≡ true

rows_in : (test : ℕ → Bool) (kind source : ℕ) (l : List ℕ) (u : Triple) → Row test kind source l u → Memᴰ u (map (triple kind source) (select test l))
rows_in test kind source l u r =
    Memᴰ.cast (triple_eq u (triple kind source u.object) r.is_kind r.is_source refl) (Memᴰ.map (triple kind source) (select_in test l r.listed r.admitted))

rows_out : (test : ℕ → Bool) (kind source : ℕ) (l : List ℕ) (u : Triple) → Memᴰ u (map (triple kind source) (select test l)) → Row test kind source l u
rows_out test kind source l u m =
    let r = Memᴰ.of_map (triple kind source) (select test l) m in
    let e : u ≡ triple kind source r.0 = sym r.2 in
    let s = select_out test l r.1 in
    record {
      is_kind = of_subject e;
      is_source = of_property e;
      listed = Memᴰ.cast (of_object e) s.0;
      admitted = ap test (of_object e) ∙ s.1;
    }

-- ---- one source

-- The four parts of what a source gives.
data FromSource (S : List Triple) (a : Triple) (x : ℕ) (u : Triple) : Type 0 where
  gives_1 : Row (admits_class a) 1 x (without x (reach S sub_class_of x)) u → FromSource S a x u
  gives_2 : Row (admits_class a) 2 x (spread S sub_class_of (objects S domain (reach S sub_property_of x))) u → FromSource S a x u
  gives_3 : Row (admits_class a) 3 x (spread S sub_class_of (objects S range (reach S sub_property_of x))) u → FromSource S a x u
  gives_4 : Row (admits a.property) 4 x (without x (reach S sub_property_of x)) u → FromSource S a x u

gives_in : (S : List Triple) (a : Triple) (x : ℕ) (u : Triple) → FromSource S a x u → Memᴰ u (alternatives_from S a x)
unfolding alternatives_from to_classes to_properties
gives_in S a x u (gives_1 r) = Memᴰ.append_left _ (rows_in (admits_class a) 1 x (without x (reach S sub_class_of x)) u r)
gives_in S a x u (gives_2 r) =
    Memᴰ.append_right (map (triple 1 x) (select (admits_class a) (without x (reach S sub_class_of x))))
    (Memᴰ.append_left _ (rows_in (admits_class a) 2 x _ u r))
gives_in S a x u (gives_3 r) =
    Memᴰ.append_right (map (triple 1 x) (select (admits_class a) (without x (reach S sub_class_of x))))
    (Memᴰ.append_right (map (triple 2 x) (select (admits_class a) (spread S sub_class_of (objects S domain (reach S sub_property_of x)))))
    (Memᴰ.append_left _ (rows_in (admits_class a) 3 x _ u r)))
gives_in S a x u (gives_4 r) =
    Memᴰ.append_right (map (triple 1 x) (select (admits_class a) (without x (reach S sub_class_of x))))
    (Memᴰ.append_right (map (triple 2 x) (select (admits_class a) (spread S sub_class_of (objects S domain (reach S sub_property_of x)))))
    (Memᴰ.append_right (map (triple 3 x) (select (admits_class a) (spread S sub_class_of (objects S range (reach S sub_property_of x)))))
    (rows_in (admits a.property) 4 x _ u r)))

gives_out : (S : List Triple) (a : Triple) (x : ℕ) (u : Triple) → Memᴰ u (alternatives_from S a x) → FromSource S a x u
unfolding alternatives_from to_classes to_properties
gives_out S a x u m =
    ⊎_elim
    (λ i. gives_1 (rows_out (admits_class a) 1 x _ u i))
    (λ i. ⊎_elim
    (λ j. gives_2 (rows_out (admits_class a) 2 x _ u j))
    (λ j. ⊎_elim
    (λ k. gives_3 (rows_out (admits_class a) 3 x _ u k))
    (λ k. gives_4 (rows_out (admits a.property) 4 x _ u k))
    (Memᴰ.append_cases (map (triple 3 x) (select (admits_class a) (spread S sub_class_of (objects S range (reach S sub_property_of x))))) j))
    (Memᴰ.append_cases (map (triple 2 x) (select (admits_class a) (spread S sub_class_of (objects S domain (reach S sub_property_of x))))) i))
    (Memᴰ.append_cases (map (triple 1 x) (select (admits_class a) (without x (reach S sub_class_of x)))) m)

-- ---- by what leads from source to target

-- u is an alternative.
abbrev Is : List Triple → Triple → Triple → Type 0
Is S a u = IsAlternative S a u.subject u.property u.object

-- Steps by subproperty, one statement of property k, then steps by subclass.
record Leads (S : List Triple) (k p d : ℕ) : Type 0 where
  property : ℕ
  class : ℕ
  up : Reach S sub_property_of p property
  stated : Memᴰ (triple property k class) S
  on : Reach S sub_class_of class d

leads_out : (S : List Triple) (k x d : ℕ) → Memᴰ d (spread S sub_class_of (objects S k (reach S sub_property_of x))) → Leads S k x d
leads_out S k x d m =
    let f = (spread_iff S sub_class_of (objects S k (reach S sub_property_of x)) d).0 m in
    let s = (objects_iff S k (reach S sub_property_of x) f.start).0 f.listed in
    record { property = s.start; class = f.start; up = (reach_iff S sub_property_of x s.start).0 s.listed; stated = s.stated; on = f.path }

leads_in : (S : List Triple) (k x d : ℕ) → Leads S k x d → Memᴰ d (spread S sub_class_of (objects S k (reach S sub_property_of x)))
leads_in S k x d l =
    (spread_iff S sub_class_of (objects S k (reach S sub_property_of x)) d).1 (
    record {
      start = l.class;
      listed = (objects_iff S k (reach S sub_property_of x) l.class).1 (record { start = l.property; listed = (reach_iff S sub_property_of x l.property).1 l.up; stated = l.stated });
      path = l.on;
    }
    )

-- An alternative of the words that u has.
of_words : (S : List Triple) (a : Triple) (k s : ℕ) (u : Triple) → u.subject ≡ k → u.property ≡ s → IsAlternative S a k s u.object → Is S a u
of_words S a k s u e f i = rw (e, f) i

gives_sound : (S : List Triple) (a : Triple) (x : ℕ) (u : Triple) → FromSource S a x u → Is S a u
gives_sound S a x u (gives_1 r) =
    let w = without_out x u.object (reach S sub_class_of x) r.listed in
    of_words S a 1 x u r.is_kind r.is_source (by_subclass ((reach_iff S sub_class_of x u.object).0 w.0) w.1 r.admitted)
gives_sound S a x u (gives_2 r) =
    let l = leads_out S domain x u.object r.listed in
    of_words S a 2 x u r.is_kind r.is_source (by_domain l.up l.stated l.on r.admitted)
gives_sound S a x u (gives_3 r) =
    let l = leads_out S range x u.object r.listed in
    of_words S a 3 x u r.is_kind r.is_source (by_range l.up l.stated l.on r.admitted)
gives_sound S a x u (gives_4 r) =
    let w = without_out x u.object (reach S sub_property_of x) r.listed in
    of_words S a 4 x u r.is_kind r.is_source (by_subproperty ((reach_iff S sub_property_of x u.object).0 w.0) w.1 r.admitted)

-- ---- a source is the subject of a statement

pub record Begins (S : List Triple) (x : ℕ) : Type 0 where
  pub statement : Triple
  pub stated : Memᴰ statement S
  pub is : statement.subject ≡ x

reach_begins : {S : List Triple} {k x y : ℕ} → Reach S k x y → (x ≡ y) ⊎ Begins S x
reach_begins stay = inl refl
reach_begins {x} (step {b} {c} r m) = inr (⊎_elim (λ (e : x ≡ b). record { statement = _; stated = m; is = sym e }) (λ g. g) (reach_begins r))

-- An alternative is the explicit triple as it is, or of another kind, with a source that is the subject of a statement.
pub source_begins : {S : List Triple} {a : Triple} {k s t : ℕ} → IsAlternative S a k s t → (triple k s t ≡ triple 0 0 0) ⊎ ((¬ (k ≡ 0)) × Begins S s)
source_begins as_it_is = inl refl
source_begins (by_subclass r n e) = inr (λ z. omega arith, ⊎_elim (λ q. absurd (n q)) (λ b. b) (reach_begins r))
source_begins (by_domain {p} {q} {c} u m r e) = inr (λ z. omega arith, ⊎_elim (λ (i : p ≡ q). record { statement = triple q domain c; stated = m; is = sym i }) (λ b. b) (reach_begins u))
source_begins (by_range {p} {q} {c} u m r e) = inr (λ z. omega arith, ⊎_elim (λ (i : p ≡ q). record { statement = triple q range c; stated = m; is = sym i }) (λ b. b) (reach_begins u))
source_begins (by_subproperty r n e) = inr (λ z. omega arith, ⊎_elim (λ q. absurd (n q)) (λ b. b) (reach_begins r))

-- ---- the theorems for one source

-- What is listed for a source is an alternative with that source, and not the explicit triple as it is.
pub from_sound : (S : List Triple) (a : Triple) (x : ℕ) (u : Triple) → Memᴰ u (alternatives_from S a x) → (u.property ≡ x) × ((¬ (u.subject ≡ 0)) × IsAlternative S a u.subject u.property u.object)
from_sound S a x u m = let g = gives_out S a x u m in (source_of g, (kind_of_lem g, gives_sound S a x u g))
  where
    source_of : FromSource S a x u → u.property ≡ x
    source_of (gives_1 r) = r.is_source
    source_of (gives_2 r) = r.is_source
    source_of (gives_3 r) = r.is_source
    source_of (gives_4 r) = r.is_source

    kind_of_lem : FromSource S a x u → ¬ (u.subject ≡ 0)
    kind_of_lem (gives_1 r) z = omega (arith, r.is_kind)
    kind_of_lem (gives_2 r) z = omega (arith, r.is_kind)
    kind_of_lem (gives_3 r) z = omega (arith, r.is_kind)
    kind_of_lem (gives_4 r) z = omega (arith, r.is_kind)

-- Each such alternative is listed.
pub from_complete : (S : List Triple) (a : Triple) (k s t : ℕ) → ¬ (k ≡ 0) → IsAlternative S a k s t → Memᴰ (triple k s t) (alternatives_from S a s)
from_complete S a k s t z as_it_is = absurd (z refl)
from_complete S a k s t z (by_subclass {c} {d} r n e) =
    gives_in S a c (triple 1 c d)
    (gives_1 (record { is_kind = refl; is_source = refl; listed = without_in c d (reach S sub_class_of c) ((reach_iff S sub_class_of c d).1 r) n; admitted = e }))
from_complete S a k s t z (by_domain {p} {q} {c} {d} u m r e) =
    gives_in S a p (triple 2 p d)
    (gives_2 (record { is_kind = refl; is_source = refl; listed = leads_in S domain p d (record { property = q; class = c; up = u; stated = m; on = r }); admitted = e }))
from_complete S a k s t z (by_range {p} {q} {c} {d} u m r e) =
    gives_in S a p (triple 3 p d)
    (gives_3 (record { is_kind = refl; is_source = refl; listed = leads_in S range p d (record { property = q; class = c; up = u; stated = m; on = r }); admitted = e }))
from_complete S a k s t z (by_subproperty {p} {q} r n e) =
    gives_in S a p (triple 4 p q)
    (gives_4 (record { is_kind = refl; is_source = refl; listed = without_in p q (reach S sub_property_of p) ((reach_iff S sub_property_of p q).1 r) n; admitted = e }))

complete : (S : List Triple) (a : Triple) (k s t : ℕ) → IsAlternative S a k s t → Memᴰ (triple k s t) (alternatives S a)
unfolding alternatives
complete S a k s t i =
    ascend_in (triple 0 0 0 ∷ flat_map (λ (t : Triple). alternatives_from S a t.subject) S)
    (⊎_elim (λ e. Memᴰ.head e)
    (λ b. Memᴰ.tail (flat_map_in (λ (t : Triple). alternatives_from S a t.subject) S b.1.stated
    (subst (λ (y : ℕ). Memᴰ (triple k s t) (alternatives_from S a y)) (sym b.1.is) (from_complete S a k s t b.0 i))))
    (source_begins i))

sound : (S : List Triple) (a u : Triple) → Memᴰ u (alternatives S a) → Is S a u
unfolding alternatives
sound S a u m =
    ⊎_elim
    (λ (e : u ≡ triple 0 0 0). subst (Is S a) (sym e) as_it_is)
    (λ i. let r = flat_map_out (λ (t : Triple). alternatives_from S a t.subject) S i in gives_sound S a r.from.subject u (gives_out S a r.from.subject u r.gives))
    (Memᴰ.cases_cons (ascend_out (triple 0 0 0 ∷ flat_map (λ (t : Triple). alternatives_from S a t.subject) S) m))

-- ---- the theorems

-- The rows are exactly the alternatives of document 01.
pub alternatives_iff : (S : List Triple) (a : Triple) (k s t : ℕ) → Memᴰ (triple k s t) (alternatives S a) ↔ IsAlternative S a k s t
alternatives_iff S a k s t = (sound S a (triple k s t), complete S a k s t)

-- They ascend, so that each stands once.
pub alternatives-ascend : (S : List Triple) (a : Triple) → Ascending (alternatives S a)
unfolding alternatives
alternatives-ascend S a = ascend_asc (triple 0 0 0 ∷ flat_map (λ (t : Triple). alternatives_from S a t.subject) S)
