-- What follows from a graph of allowed statements and facts: the statements that hold, by rdfs5 and rdfs11 alone, and the facts that hold. So of the
-- other rules the first premise is an explicit statement and the second a fact, and closed statements give no further fact: narrowings that are
-- proved here, not assumed. Assumes nothing.
use mathlib.Core.Path.{◌≡◌, refl, sym, ◌∙◌}
use mathlib.Core.Bool.{true, false}
use mathlib.Core.List.Memᴰ
use mathlib.Core.List.{List, [], ◌∷◌, ◌++◌, Memᴰ}
use mathlib.Core.Logic.{◌↔◌, ◌⊎◌, inl, inr, ⊎_elim}
use Prim.Native.Nat.{ℕ, ◌≤◌, ◌<◌}
use native.Mathlib.Omega.{arith}
use lib.Dec.{eqb, leb, ltb}
use borrow.Author.Tests.{eqb-true, leb-true}
use Rattle.spec.specs.declared.Triple.{Triple}
use Rattle.spec.specs.Terms.{type, sub_class_of, sub_property_of, domain, range, kind, number, is_uri, is_blank, is_literal, triple, is_resource, is_triple, is_statement, is_allowed_statement, is_allowed_fact}
use Rattle.spec.proofs.Lists.{true-not_false, by_test, or_cases}
use Rattle.spec.proofs.Ascending.{and_left, and_right}
use Rattle.spec.specs.Rules.{Rule, Follows, by_rule, FollowsAsFact, Carries, Reach, stay, step}
use Rattle.spec.specs.inside.Stated.{Stated}
use Rattle.spec.specs.inside.Entailment.{Holds, HoldsBy, InGraph}
use Rattle.spec.proofs.Steps.{steps-reach}
use Rattle.spec.proofs.Closed.{stated-steps, stated_explicit}
use Rattle.spec.proofs.Allowed.{stated_allowed}
use Rattle.spec.proofs.Entailment.{allowed_fact, allowed_no_vocabulary, not_vocabulary, holds_allowed}

-- ---- each rule on a small graph of document 01's numbers

-- What a rule gives of the two triples of a graph.
abbrev Given : Triple → Triple → Triple → Type 0
Given r s t = Follows (r ∷ s ∷ []) t

-- A domain gives the subject its class,
pub domain-given : Given (triple 20 4 17) (triple 32 20 33) (triple 32 1 17)
unfolding is_uri is_blank is_literal is_triple
domain-given = by_rule (Follows.explicit (Memᴰ.head refl)) (Follows.explicit (Memᴰ.tail (Memᴰ.head refl))) Rule.rdfs2 refl

-- a range the object,
pub range-given : Given (triple 20 5 16) (triple 32 20 33) (triple 33 1 16)
unfolding is_uri is_blank is_literal is_triple
range-given = by_rule (Follows.explicit (Memᴰ.head refl)) (Follows.explicit (Memᴰ.tail (Memᴰ.head refl))) Rule.rdfs3 refl

-- also where that is a blank.
pub blank-given : Given (triple 20 5 16) (triple 32 20 0x40000001) (triple 0x40000001 1 16)
unfolding is_uri is_blank is_literal is_triple
blank-given = by_rule (Follows.explicit (Memᴰ.head refl)) (Follows.explicit (Memᴰ.tail (Memᴰ.head refl))) Rule.rdfs3 refl

-- A subproperty gives the property that it is below,
pub subproperty-given : Given (triple 19 3 20) (triple 32 19 33) (triple 32 20 33)
unfolding is_uri is_blank is_literal is_triple
subproperty-given = by_rule (Follows.explicit (Memᴰ.head refl)) (Follows.explicit (Memᴰ.tail (Memᴰ.head refl))) Rule.rdfs7 refl

-- and a subclass the class.
pub subclass-given : Given (triple 16 2 17) (triple 32 1 16) (triple 32 1 17)
unfolding is_uri is_blank is_literal is_triple
subclass-given = by_rule (Follows.explicit (Memᴰ.head refl)) (Follows.explicit (Memᴰ.tail (Memᴰ.head refl))) Rule.rdfs9 refl

-- Two subproperty statements give a third,
pub subproperties-given : Given (triple 19 3 20) (triple 20 3 21) (triple 19 3 21)
unfolding is_uri is_blank is_literal is_triple
subproperties-given = by_rule (Follows.explicit (Memᴰ.head refl)) (Follows.explicit (Memᴰ.tail (Memᴰ.head refl))) Rule.rdfs5 refl

-- and so do two subclass statements.
pub subclasses-given : Given (triple 16 2 17) (triple 17 2 18) (triple 16 2 18)
unfolding is_uri is_blank is_literal is_triple
subclasses-given = by_rule (Follows.explicit (Memᴰ.head refl)) (Follows.explicit (Memᴰ.tail (Memᴰ.head refl))) Rule.rdfs11 refl

-- ---- of any graph

-- More triples, no fewer conclusions.
pub follows_mono : {G H : List Triple} {t : Triple} → ((u : Triple) → Memᴰ u G → Memᴰ u H) → Follows G t → Follows H t
follows_mono h (Follows.explicit m) = Follows.explicit (h _ m)
follows_mono h (by_rule r s x e) = by_rule (follows_mono h r) (follows_mono h s) x e

-- What follows from triples is a triple.
pub follows-triple : {G : List Triple} {t : Triple} → ((u : Triple) → Memᴰ u G → is_triple u ≡ true) → Follows G t → is_triple t ≡ true
follows-triple h (Follows.explicit m) = h _ m
follows-triple h (by_rule r s x e) = e

-- ---- words

-- The kinds of a URI, a blank and a literal.
uri-kind : (w : ℕ) → is_uri w ≡ true → kind w ≡ 0
unfolding is_uri
uri-kind w e = eqb-true (kind w) 0 (and_left (eqb (kind w) 0) (ltb 0 (number w)) e)

blank-kind : (w : ℕ) → is_blank w ≡ true → kind w ≡ 1
unfolding is_blank
blank-kind w e = eqb-true (kind w) 1 (and_left (eqb (kind w) 1) (ltb 0 (number w)) e)

literal-kind : (w : ℕ) → is_literal w ≡ true → kind w ≡ 2
unfolding is_literal
literal-kind w e = eqb-true (kind w) 2 (and_left (eqb (kind w) 2) (ltb 0 (number w)) e)

-- Two of three different numbers are not equal.
kinds_differ : {k : ℕ} (m n : ℕ) → m < n → k ≡ m → k ≡ n → ⊥
kinds_differ m n h i j = omega arith

-- A URI or blank is no literal.
resource_no_literal : (w : ℕ) → is_resource w ≡ true → is_literal w ≡ false
resource_no_literal w e =
    by_test (is_literal w)
    (λ l. absurd (⊎_elim
    (λ u. kinds_differ 0 2 (omega arith) (uri-kind w u) (literal-kind w l))
    (λ b. kinds_differ 1 2 (omega arith) (blank-kind w b) (literal-kind w l))
    (or_cases (is_uri w) (is_blank w) e)))
    (λ n. n)

-- The subject of a triple is no literal.
subject_no_literal : (t : Triple) → is_triple t ≡ true → is_literal t.subject ≡ false
unfolding is_triple
subject_no_literal t e = resource_no_literal t.subject (and_left _ _ (and_left _ _ e))

-- A statement has one of the properties 2 to 5,
pub statement_property : (t : Triple) → is_statement t ≡ true → (2 ≤ t.property) × (t.property ≤ 5)
unfolding is_statement
statement_property t e = (leb-true 2 t.property (and_left _ _ e), leb-true t.property 5 (and_right (leb 2 t.property) _ e))

-- and an allowed statement is one.
pub allowed_statement : (t : Triple) → is_allowed_statement t ≡ true → is_statement t ≡ true
unfolding is_allowed_statement
allowed_statement t e = and_left _ _ (and_right (is_triple t) _ e)

-- ---- along steps

-- A thing is of every class above its own,
pub up_classes : {S F : List Triple} {x c d : ℕ} → Holds S F (triple x type c) → Reach S sub_class_of c d → Holds S F (triple x type d)
up_classes h stay = h
up_classes h (step r m) = Holds.rdfs9 m (up_classes h r)

-- and a fact holds with every property above its own.
pub up-properties : {S F : List Triple} {x y p q : ℕ} → Holds S F (triple x p y) → Reach S sub_property_of p q → Holds S F (triple x q y)
up-properties h stay = h
up-properties h (step r m) = Holds.rdfs7 m (up-properties h r)

-- ---- of allowed statements and facts

module _ {S F : List Triple} (v : (u : Triple) → Memᴰ u S → is_allowed_statement u ≡ true) (w : (u : Triple) → Memᴰ u F → is_allowed_fact u ≡ true) where
  -- A statement that holds is a triple and a statement.
  stated_statement : {t : Triple} → Stated S t → (is_triple t ≡ true) × (is_statement t ≡ true)
  unfolding is_allowed_statement
  stated_statement {t} h = let a = stated_allowed v h in (and_left (is_triple t) _ a, allowed_statement t a)

  -- A statement of the graph is one that holds as such,
  statement_in : (t : Triple) → is_statement t ≡ true → InGraph S F t → Stated S t
  statement_in t e = ⊎_elim (λ m. m) (λ h. absurd (true-not_false (sym e ∙ (allowed_fact t (holds_allowed v w h)).1)))

  -- and what is no statement is a fact that holds.
  fact_holds : (t : Triple) → ¬ (is_statement t ≡ true) → InGraph S F t → Holds S F t
  fact_holds t n = ⊎_elim (λ h. absurd (n (stated_statement h).1)) (λ h. h)

  -- A triple whose property is the subject of a statement is no statement.
  not_stated : {k x : ℕ} (y a z : ℕ) → Stated S (triple a k x) → ¬ (is_statement (triple y a z) ≡ true)
  not_stated {k} {x} y a z h e =
      let p = statement_property (triple y a z) e in
      let n = allowed_no_vocabulary (triple a k x ∷ []) (λ u m. let q : u ≡ triple a k x = Memᴰ.eq_of_singleton m in rw q (stated_allowed v h)) _ (Memᴰ.head refl) in
      not_vocabulary n.0 (omega (arith, p)) p.1

  -- A triple of property rdf:type is none.
  type-not_stated : (z x : ℕ) → ¬ (is_statement (triple z type x) ≡ true)
  type-not_stated z x e = let p = statement_property (triple z type x) e in omega (arith, p.0)

  -- A domain or a range that holds is explicit.
  explicit_only : (a k x : ℕ) → sub_property_of < k → Stated S (triple a k x) → Memᴰ (triple a k x) S
  explicit_only a k x l h = (stated_explicit S (triple a k x) (λ e. omega (arith, l, e)) (λ e. omega (arith, l, e))).0 h

  -- What a rule gives of triples of the graph is one of them.
  rule_holds : {r s t : Triple} → InGraph S F r → InGraph S F s → Rule r s t → is_triple t ≡ true → InGraph S F t
  unfolding is_statement
  rule_holds g h (Rule.rdfs2 {a} {x} {y} {z}) e =
      let m = statement_in (triple a domain x) refl g in
      inr (Holds.rdfs2 (explicit_only a domain x (omega arith) m) (fact_holds (triple y a z) (not_stated y a z m) h))
  rule_holds g h (Rule.rdfs3 {a} {x} {y} {z}) e =
      let m = statement_in (triple a range x) refl g in
      inr (Holds.rdfs3 (explicit_only a range x (omega arith) m) (subject_no_literal (triple z type x) e) (fact_holds (triple y a z) (not_stated y a z m) h))
  rule_holds g h (Rule.rdfs5 {x} {y} {z}) e = inl (Stated.rdfs5 (statement_in (triple x sub_property_of y) refl g) (statement_in (triple y sub_property_of z) refl h))
  rule_holds g h (Rule.rdfs7 {a} {b} {x} {y}) e =
      let m = statement_in (triple a sub_property_of b) refl g in
      inr (up-properties (fact_holds (triple x a y) (not_stated x a y m) h) (steps-reach ((stated-steps S sub_property_of a b (inr refl)).0 m)))
  rule_holds g h (Rule.rdfs9 {x} {y} {z}) e =
      let m = statement_in (triple x sub_class_of y) refl g in
      inr (up_classes (fact_holds (triple z type x) (type-not_stated z x) h) (steps-reach ((stated-steps S sub_class_of x y (inl refl)).0 m)))
  rule_holds g h (Rule.rdfs11 {x} {y} {z}) e = inl (Stated.rdfs11 (statement_in (triple x sub_class_of y) refl g) (statement_in (triple y sub_class_of z) refl h))

  -- What follows is a statement that holds, or a fact that does;
  follows-graph : {t : Triple} → Follows (S ++ F) t → InGraph S F t
  follows-graph (Follows.explicit m) = ⊎_elim (λ i. inl (Stated.explicit i)) (λ i. inr (Holds.explicit i)) (Memᴰ.append_cases S m)
  follows-graph (by_rule r s x e) = rule_holds (follows-graph r) (follows-graph s) x e

  -- a statement that holds follows,
  stated_follows : {t : Triple} → Stated S t → Follows (S ++ F) t
  stated_follows (Stated.explicit m) = Follows.explicit (Memᴰ.append_left F m)
  stated_follows (Stated.rdfs5 p q) = by_rule (stated_follows p) (stated_follows q) Rule.rdfs5 (stated_statement (Stated.rdfs5 p q)).0
  stated_follows (Stated.rdfs11 p q) = by_rule (stated_follows p) (stated_follows q) Rule.rdfs11 (stated_statement (Stated.rdfs11 p q)).0

  -- a fact that holds is a triple,
  holding-triple : {t : Triple} → Holds S F t → is_triple t ≡ true
  holding-triple h = (allowed_fact _ (holds_allowed v w h)).0

  -- and follows.
  holds_follows : {t : Triple} → Holds S F t → Follows (S ++ F) t
  holds_follows (Holds.explicit m) = Follows.explicit (Memᴰ.append_right S m)
  holds_follows (Holds.rdfs2 m d) = by_rule (Follows.explicit (Memᴰ.append_left F m)) (holds_follows d) Rule.rdfs2 (holding-triple (Holds.rdfs2 m d))
  holds_follows (Holds.rdfs3 m l d) = by_rule (Follows.explicit (Memᴰ.append_left F m)) (holds_follows d) Rule.rdfs3 (holding-triple (Holds.rdfs3 m l d))
  holds_follows (Holds.rdfs7 m d) = by_rule (Follows.explicit (Memᴰ.append_left F m)) (holds_follows d) Rule.rdfs7 (holding-triple (Holds.rdfs7 m d))
  holds_follows (Holds.rdfs9 m d) = by_rule (Follows.explicit (Memᴰ.append_left F m)) (holds_follows d) Rule.rdfs9 (holding-triple (Holds.rdfs9 m d))

  -- From allowed statements and facts exactly the statements and the facts that hold follow.
  pub follows_iff : (t : Triple) → Follows (S ++ F) t ↔ InGraph S F t
  follows_iff t = (follows-graph, ⊎_elim stated_follows holds_follows)

  -- The statements among them are exactly those that hold, whatever the facts are.
  pub follows_statement_iff : (t : Triple) → (Follows (S ++ F) t × (is_statement t ≡ true)) ↔ Stated S t
  follows_statement_iff t = (λ h. statement_in t h.1 (follows-graph h.0), λ h. (stated_follows h, (stated_statement h).1))

  -- The facts among them are exactly those that hold.
  pub follows_fact_iff : (t : Triple) → FollowsAsFact (S ++ F) t ↔ Holds S F t
  follows_fact_iff t = (λ h. fact_holds t (λ e. true-not_false (sym e ∙ h.1)) (follows-graph h.0), λ h. (holds_follows h, (allowed_fact t (holds_allowed v w h)).1))

-- What an allowed fact carries is exactly what holds by it.
pub carries_iff : {S : List Triple} → ((u : Triple) → Memᴰ u S → is_allowed_statement u ≡ true) → (f t : Triple) → is_allowed_fact f ≡ true → Carries S f t ↔ HoldsBy S f t
carries_iff v f t e = follows_fact_iff v (λ u m. let q : u ≡ f = Memᴰ.eq_of_singleton m in rw q e) t
