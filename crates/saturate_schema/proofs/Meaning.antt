-- What a fact carries, as walks between nodes: a class is its term, a property its term and 2 ^ 32. Assumes nothing.
use mathlib.Core.Path.{◌≡◌, refl, sym, ap, ◌∙◌, subst}
use mathlib.Core.Bool.{false}
use mathlib.Core.List.Memᴰ
use mathlib.Core.List.{List, Memᴰ}
use mathlib.Core.Logic.{inl, inr, by_cases}
use Prim.Native.Nat.{ℕ, ◌^◌, ◌<◌}
use native.Mathlib.Omega.{arith}
use native.Mathlib.Decide.{ℕ_discrete}
use Rattle.spec.specs.declared.Triple.{Triple}
use Rattle.spec.specs.Terms.{is_literal, triple}
use Rattle.spec.specs.inside.Comparison.{triple_eq, choose}
use Rattle.spec.proofs.Order.{of_subject, of_property, of_object, choose_yes, choose_no}
use Rattle.spec.specs.inside.Entailment.{explicit, rdfs2, rdfs3, rdfs7, rdfs9, HoldsBy, NoVocabulary}
use Rattle.spec.proofs.Entailment.{not_vocabulary}
use Rattle.saturate_schema.specs.inside.Walks.{Edge, Plus, edge, more}
use Rattle.saturate_schema.specs.inside.Nodes.{property_node}
use Rattle.saturate_schema.proofs.Walks.{From}

-- The statements 2, 3 and via as links between nodes.
pub data Link (S : List Triple) (via a b : ℕ) : Type 0 where
  sub_class : (c d : ℕ) → Memᴰ (triple c 2 d) S → a ≡ c → b ≡ d → Link S via a b
  sub_property : (p q : ℕ) → Memᴰ (triple p 3 q) S → a ≡ property_node p → b ≡ property_node q → Link S via a b
  typing : (p c : ℕ) → Memᴰ (triple p via c) S → a ≡ property_node p → b ≡ c → Link S via a b

-- The edges E are these links.
pub record Edges (S : List Triple) (via : ℕ) (E : List Edge) : Type 0 where
  pub out : {a b : ℕ} → Memᴰ (a, b) E → Link S via a b
  pub into : {a b : ℕ} → Link S via a b → Memᴰ (a, b) E

-- The sides of the statements are words below 2 ^ 32.
abbrev pub Small : List Triple → Type 0
Small S = (t : Triple) → Memᴰ t S → (t.subject < 2 ^ 32) × (t.object < 2 ^ 32)

-- The node at which a fact's walks start.
unfoldable pub key : Triple → ℕ
key f = choose (ℕ_discrete f.property 1) f.object (property_node f.property)

-- A typing starts at its class,
pub key-type : (f : Triple) → f.property ≡ 1 → key f ≡ f.object
unfolding key
key-type f e = choose_yes (ℕ_discrete f.property 1) f.object (property_node f.property) e

-- any other fact at its property.
pub key_other : (f : Triple) → ¬ (f.property ≡ 1) → key f ≡ property_node f.property
unfolding key
key_other f n = choose_no (ℕ_discrete f.property 1) f.object (property_node f.property) n

-- ---- what is walked to is carried

module _ (S : List Triple) (f : Triple) (small : Small S) (via x : ℕ) (E : List Edge) (edges : Edges S via E)
    (rule : (p c : ℕ) → Memᴰ (triple p via c) S → HoldsBy S f (triple f.subject p f.object) → HoldsBy S f (triple x 1 c)) where
  -- What is reached at the node n is carried: as a class of x, or as a property of the fact.
  record Got (n : ℕ) : Type 0 where
    cls : (c : ℕ) → c < 2 ^ 32 → n ≡ c → HoldsBy S f (triple x 1 c)
    prp : (q : ℕ) → n ≡ property_node q → HoldsBy S f (triple f.subject q f.object)

  -- A link goes from what is carried to what is carried,
  got_step : {a b : ℕ} → Got a → Link S via a b → Got b
  got_step g (sub_class c d m ea eb) =
      let w = small (triple c 2 d) m in
      record {
        cls = λ k l e. subst (λ (z : ℕ). HoldsBy S f (triple x 1 z)) (sym eb ∙ e) (rdfs9 m (g.cls c w.0 ea));
        prp = λ q e. absurd (omega (arith, w.1));
      }
  got_step g (sub_property p q m ea eb) =
      record {
        cls = λ k l e. absurd (omega arith);
        prp = λ r e. let h : q ≡ r = omega arith in subst (λ (z : ℕ). HoldsBy S f (triple f.subject z f.object)) h (rdfs7 m (g.prp p ea));
      }
  got_step g (typing p c m ea eb) =
      let w = small (triple p via c) m in
      record {
        cls = λ k l e. subst (λ (z : ℕ). HoldsBy S f (triple x 1 z)) (sym eb ∙ e) (rule p c m (g.prp p ea));
        prp = λ q e. absurd (omega (arith, w.1));
      }

  -- and so does a walk.
  got : {a b : ℕ} → Got a → Plus E a b → Got b
  got g (edge m) = got_step g (edges.out m)
  got g (more p m) = got_step (got g p) (edges.out m)

  -- A fact carries itself.
  itself : HoldsBy S f (triple f.subject f.property f.object)
  itself = explicit (Memᴰ.head refl)

  -- A walk from its property.
  got_prop : Got (property_node f.property)
  got_prop = record { cls = λ c l e. absurd (omega arith); prp = λ q e. let h : f.property ≡ q = omega arith in subst (λ (z : ℕ). HoldsBy S f (triple f.subject z f.object)) h itself }

-- The rows of the subject, by domains.
module _ (S : List Triple) (f : Triple) (small : Small S) (fo : f.object < 2 ^ 32) (E : List Edge) (edges : Edges S 4 E) where
  -- A walk from where it starts.
  got_key : Got S f small 4 f.subject E edges (λ p c m h. rdfs2 m h) (key f)
  got_key =
      by_cases (ℕ_discrete f.property 1)
      (λ e. rw (key-type f e) record {
        cls = λ c l q. explicit (Memᴰ.head (triple_eq (triple f.subject 1 c) f refl (sym e) (sym q)));
        prp = λ q h. absurd (omega arith);
      })
      (λ n. rw (key_other f n) (got_prop S f small 4 f.subject E edges (λ p c m h. rdfs2 m h)))

  -- The classes of the subject are carried,
  pub subject_class : (c : ℕ) → c < 2 ^ 32 → Plus E (key f) c → HoldsBy S f (triple f.subject 1 c)
  subject_class c l p = (got S f small 4 f.subject E edges (λ p c m h. rdfs2 m h) got_key p).cls c l refl

  -- and the properties.
  pub subject_property : (q : ℕ) → Plus E (key f) (property_node q) → HoldsBy S f (triple f.subject q f.object)
  subject_property q p = (got S f small 4 f.subject E edges (λ p c m h. rdfs2 m h) got_key p).prp q refl

-- The rows of the object, by ranges.
pub object_class : (S : List Triple) (f : Triple) → Small S → is_literal f.object ≡ false → (E : List Edge) → Edges S 5 E → (c : ℕ) → c < 2 ^ 32 → Plus E (property_node f.property) c → HoldsBy S f (triple f.object 1 c)
object_class S f small n E edges c l p = (got S f small 5 f.object E edges (λ p c m h. rdfs3 m n h) (got_prop S f small 5 f.object E edges (λ p c m h. rdfs3 m n h)) p).cls c l refl

-- ---- what is carried is walked to

-- What a fact carries: a class of its subject, a property, or a class of its object.
pub data Carry (f : Triple) (D R : List Edge) (t : Triple) : Type 0 where
  by_class : t.subject ≡ f.subject → t.property ≡ 1 → t.object < 2 ^ 32 → From D (key f) t.object → Carry f D R t
  by_property : t.subject ≡ f.subject → t.object ≡ f.object → From D (key f) (property_node t.property) → Carry f D R t
  by_object_lem : is_literal f.object ≡ false → ¬ (f.property ≡ 1) → t.subject ≡ f.object → t.property ≡ 1 → t.object < 2 ^ 32 → Plus R (property_node f.property) t.object → Carry f D R t

module _ (S : List Triple) (f : Triple) (small : Small S) (none : NoVocabulary S) (fo : f.object < 2 ^ 32) (D R : List Edge) (de : Edges S 4 D) (re : Edges S 5 R) where
  -- One step more.
  from_step : (E : List Edge) {a b c : ℕ} → From E a b → Memᴰ (b, c) E → Plus E a c
  from_step E (inl e) m = edge (rw e at m)
  from_step E (inr p) m = more p m

  -- What leads to a property is the same by domains and by ranges.
  prop_link : (q : ℕ) {a b : ℕ} → Link S 4 a b → b ≡ property_node q → Link S 5 a b
  prop_link q (sub_class c d m ea eb) e = sub_class c d m ea eb
  prop_link q (sub_property p r m ea eb) e = sub_property p r m ea eb
  prop_link q (typing p c m ea eb) e = absurd (omega (arith, (small (triple p 4 c) m).1))

  -- A node that is a property.
  record Above (a : ℕ) : Type 0 where
    term : ℕ
    is : a ≡ property_node term

  -- Only a property leads to a property,
  link_above : (q : ℕ) {a b : ℕ} → Link S 4 a b → b ≡ property_node q → Above a
  link_above q (sub_class c d m ea eb) e = absurd (omega (arith, (small (triple c 2 d) m).1))
  link_above q (sub_property p r m ea eb) e = record { term = p; is = ea }
  link_above q (typing p c m ea eb) e = record { term = p; is = ea }

  -- so the way there is the same by ranges,
  prop_plus : {a b : ℕ} (q : ℕ) → b ≡ property_node q → Plus D a b → Plus R a b
  prop_plus q e (edge m) = edge (re.into (prop_link q (de.out m) e))
  prop_plus q e (more p m) = let z = link_above q (de.out m) e in more (prop_plus z.term z.is p) (re.into (prop_link q (de.out m) e))

  -- and starts at a property.
  above_start : {a b : ℕ} (q : ℕ) → b ≡ property_node q → Plus D a b → Above a
  above_start q e (edge m) = link_above q (de.out m) e
  above_start q e (more p m) = let z = link_above q (de.out m) e in above_start z.term z.is p

  -- So such a walk does not start at a typing.
  pub not_type : (q : ℕ) → From D (key f) (property_node q) → ¬ (f.property ≡ 1)
  not_type q (inl e) h = omega (arith, key-type f h)
  not_type q (inr p) h = let z = above_start q refl p in omega (arith, key-type f h, z.is)

  -- A range of a property above is reached by ranges.
  to_range : (q c : ℕ) → From D (key f) (property_node q) → Memᴰ (property_node q, c) R → Plus R (property_node f.property) c
  to_range q c w m = let n = not_type q w in go n w
    where
      go : ¬ (f.property ≡ 1) → From D (key f) (property_node q) → Plus R (property_node f.property) c
      go n (inl e) = edge (rw (e ∙ key_other f n) at m)
      go n (inr p) = more (rw (key_other f n) at (prop_plus q refl p)) m

  -- No walk ends at rdf:type.
  pub no_one : (q : ℕ) → q ≡ 1 → ¬ From D (key f) (property_node q)
  no_one q o w = go (not_type q w) w
    where
      link-one : {a b : ℕ} → b ≡ property_node q → ¬ Link S 4 a b
      link-one e (sub_class c d m ea eb) = omega (arith, (small (triple c 2 d) m).1)
      link-one e (sub_property p r m ea eb) = not_vocabulary (none (triple p 3 r) m).1 (omega arith) (omega arith)
      link-one e (typing p c m ea eb) = omega (arith, (small (triple p 4 c) m).1)

      plus_one : {a b : ℕ} → b ≡ property_node q → ¬ Plus D a b
      plus_one e (edge m) = link-one e (de.out m)
      plus_one e (more p m) = link-one e (de.out m)

      go : ¬ (f.property ≡ 1) → From D (key f) (property_node q) → ⊥
      go n (inl e) = n (omega (arith, key_other f n))
      go n (inr p) = plus_one refl p

  -- All that is carried is such.
  pub carry : {t : Triple} → HoldsBy S f t → Carry f D R t
  carry (explicit m) =
      let e = Memᴰ.eq_of_singleton m in
      by_cases (ℕ_discrete f.property 1)
      (λ h. by_class (of_subject e) (of_property e ∙ h) (rw (of_object e) fo) (inl (of_object e ∙ sym (key-type f h))))
      (λ n. by_property (of_subject e) (of_object e) (inl (ap property_node (of_property e) ∙ sym (key_other f n))))
  carry (rdfs9 {c} {d} {a} m h) = go (carry h)
    where
      go : Carry f D R (triple a 1 c) → Carry f D R (triple a 1 d)
      go (by_class s p l w) = by_class s refl (small (triple c 2 d) m).1 (inr (from_step D w (de.into (sub_class c d m refl refl))))
      go (by_property s o w) = absurd (no_one 1 refl w)
      go (by_object_lem n k s p l w) = by_object_lem n k s refl (small (triple c 2 d) m).1 (more w (re.into (sub_class c d m refl refl)))
  carry (rdfs7 {p} {q} {a} {b} m h) = go (carry h)
    where
      go : Carry f D R (triple a p b) → Carry f D R (triple a q b)
      go (by_class s e l w) = absurd (not_vocabulary (none (triple p 3 q) m).0 (omega arith) (omega arith))
      go (by_property s o w) = by_property s o (inr (from_step D w (de.into (sub_property p q m refl refl))))
      go (by_object_lem n k s e l w) = absurd (not_vocabulary (none (triple p 3 q) m).0 (omega arith) (omega arith))
  carry (rdfs2 {p} {c} {a} {b} m h) = go (carry h)
    where
      go : Carry f D R (triple a p b) → Carry f D R (triple a 1 c)
      go (by_class s e l w) = absurd (not_vocabulary (none (triple p 4 c) m).0 (omega arith) (omega arith))
      go (by_property s o w) = by_class s refl (small (triple p 4 c) m).1 (inr (from_step D w (de.into (typing p c m refl refl))))
      go (by_object_lem n k s e l w) = absurd (not_vocabulary (none (triple p 4 c) m).0 (omega arith) (omega arith))
  carry (rdfs3 {p} {c} {a} {b} m n h) = go (carry h)
    where
      go : Carry f D R (triple a p b) → Carry f D R (triple b 1 c)
      go (by_class s e l w) = absurd (not_vocabulary (none (triple p 5 c) m).0 (omega arith) (omega arith))
      go (by_property s o w) = by_object_lem (rw o at n) (not_type p w) o refl (small (triple p 5 c) m).1 (to_range p c w (re.into (typing p c m refl refl)))
      go (by_object_lem k z s e l w) = absurd (not_vocabulary (none (triple p 5 c) m).0 (omega arith) (omega arith))

  -- All such is carried.
  pub carried : {t : Triple} → Carry f D R t → HoldsBy S f t
  carried {t} (by_class s p l (inl e)) = explicit (Memᴰ.head (back s p l e))
    where
      back : t.subject ≡ f.subject → t.property ≡ 1 → t.object < 2 ^ 32 → t.object ≡ key f → t ≡ f
      back s p l e = by_cases (ℕ_discrete f.property 1) (λ h. triple_eq t f s (p ∙ sym h) (e ∙ key-type f h)) (λ n. absurd (omega (arith, key_other f n)))
  carried {t} (by_class s p l (inr w)) = subst (HoldsBy S f) (triple_eq (triple f.subject 1 t.object) t (sym s) (sym p) refl) (subject_class S f small fo D de t.object l w)
  carried {t} (by_property s o (inl e)) = explicit (Memᴰ.head (back s o e))
    where
      back : t.subject ≡ f.subject → t.object ≡ f.object → property_node t.property ≡ key f → t ≡ f
      back s o e = by_cases (ℕ_discrete f.property 1) (λ h. absurd (omega (arith, key-type f h))) (λ n. triple_eq t f s (omega (arith, key_other f n)) o)
  carried {t} (by_property s o (inr w)) = subst (HoldsBy S f) (triple_eq (triple f.subject t.property f.object) t (sym s) refl (sym o)) (subject_property S f small fo D de t.property w)
  carried {t} (by_object_lem n k s p l w) = subst (HoldsBy S f) (triple_eq (triple f.object 1 t.object) t (sym s) (sym p) refl) (object_class S f small n R re t.object l w)
