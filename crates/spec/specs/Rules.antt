-- What follows from a graph, as RDF 1.1 Semantics words it (section 9.2.1, the rules of document 01, "What follows", and of document 02's slip 4).
-- Definitions only.
use Rattle.std.specs.Prelude.{◌≡◌, true, false, ℕ}
use mathlib.Core.List.{List, [], ◌∷◌, ◌++◌, Memᴰ}
use Rattle.spec.specs.declared.Triple.{Triple}
use Rattle.spec.specs.Terms.{type, sub_class_of, sub_property_of, domain, range, triple, is_triple, is_statement}

-- The rules, line for line as the paper's table has them: what two triples give.
pub data Rule : Triple → Triple → Triple → Type 0 where
  -- rdfs2: "aaa rdfs:domain xxx . yyy aaa zzz ." give "yyy rdf:type xxx ."
  rdfs2 : {a x y z : ℕ} → Rule (triple a domain x) (triple y a z) (triple y type x)
  -- rdfs3: "aaa rdfs:range xxx . yyy aaa zzz ." give "zzz rdf:type xxx ."
  rdfs3 : {a x y z : ℕ} → Rule (triple a range x) (triple y a z) (triple z type x)
  -- rdfs5: "xxx rdfs:subPropertyOf yyy . yyy rdfs:subPropertyOf zzz ." give "xxx rdfs:subPropertyOf zzz ."
  rdfs5 : {x y z : ℕ} → Rule (triple x sub_property_of y) (triple y sub_property_of z) (triple x sub_property_of z)
  -- rdfs7: "aaa rdfs:subPropertyOf bbb . xxx aaa yyy ." give "xxx bbb yyy ."
  rdfs7 : {a b x y : ℕ} → Rule (triple a sub_property_of b) (triple x a y) (triple x b y)
  -- rdfs9: "xxx rdfs:subClassOf yyy . zzz rdf:type xxx ." give "zzz rdf:type yyy ."
  rdfs9 : {x y z : ℕ} → Rule (triple x sub_class_of y) (triple z type x) (triple z type y)
  -- rdfs11: "xxx rdfs:subClassOf yyy . yyy rdfs:subClassOf zzz ." give "xxx rdfs:subClassOf zzz ."
  rdfs11 : {x y z : ℕ} → Rule (triple x sub_class_of y) (triple y sub_class_of z) (triple x sub_class_of z)

-- The triples that follow from a graph: its own, and "rules repeat until no triple is gained". What a rule gives follows where it is a
-- triple: a literal is no subject, so it gets no type.
pub data Follows (G : List Triple) : Triple → Type 0 where
  explicit : {t : Triple} → Memᴰ t G → Follows G t
  by_rule : {r s t : Triple} → Follows G r → Follows G s → Rule r s t → is_triple t ≡ true → Follows G t

-- The facts among them.
abbrev pub FollowsAsFact : List Triple → Triple → Type 0
FollowsAsFact G t = Follows G t × (is_statement t ≡ false)

-- "One fact and the statements carry a set of facts, itself included."
abbrev pub Carries : List Triple → Triple → Triple → Type 0
Carries S f t = FollowsAsFact (S ++ (f ∷ [])) t

-- Zero or more steps of the property k from a to b: statements a k x, x k y, .. z k b.
pub data Reach (S : List Triple) (k a : ℕ) : ℕ → Type 0 where
  stay : Reach S k a a
  step : {b c : ℕ} → Reach S k a b → Memᴰ (triple b k c) S → Reach S k a c
