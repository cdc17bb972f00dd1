-- Terms as words, triples and statements (document 01, "Terms and triples"). Definitions only.
use Rattle.std.specs.Prelude.{ℕ, ◌/◌, ◌%◌, ◌^◌, Bool, ◌&&◌, ◌||◌, not, cond, eqb, leb, ltb}
use Rattle.spec.specs.declared.Triple.{Triple}

-- "A term is an unsigned 32-bit word. The kind lies in bits 31 and 30."
abbrev pub kind : ℕ → ℕ
kind w = w / 2 ^ 30

-- "The low 30 bits are its number."
abbrev pub number : ℕ → ℕ
number w = w % 2 ^ 30

-- Kind 0, a URI: an IRI of RDF 1.1. "Number 0 is no term."
unfoldable pub is_uri : ℕ → Bool
is_uri w = eqb (kind w) 0 && ltb 0 (number w)

-- Kind 1, a blank node.
unfoldable pub is_blank : ℕ → Bool
is_blank w = eqb (kind w) 1 && ltb 0 (number w)

-- Kind 2, a literal.
unfoldable pub is_literal : ℕ → Bool
is_literal w = eqb (kind w) 2 && ltb 0 (number w)

-- Kind 3, a variable: "numbered 0 to 15 and used only in questions".
unfoldable pub is_variable : ℕ → Bool
is_variable w = eqb (kind w) 3 && ltb (number w) 16

-- "URIs 1 to 5 are the vocabulary": rdf:type, rdfs:subClassOf, rdfs:subPropertyOf, rdfs:domain, rdfs:range.
unfoldable pub is_vocabulary : ℕ → Bool
is_vocabulary w = leb 1 w && leb w 5

-- rdf:type, by name.
abbrev pub type : ℕ
type = 1

-- rdfs:subClassOf.
abbrev pub sub_class_of : ℕ
sub_class_of = 2

-- rdfs:subPropertyOf.
abbrev pub sub_property_of : ℕ
sub_property_of = 3

-- rdfs:domain.
abbrev pub domain : ℕ
domain = 4

-- rdfs:range.
abbrev pub range : ℕ
range = 5

-- The triple of a subject, a property and an object.
abbrev pub triple : ℕ → ℕ → ℕ → Triple
triple s p o = record { subject = s; property = p; object = o }

-- "A URI or blank": what may be a subject.
abbrev pub is_resource : ℕ → Bool
is_resource w = is_uri w || is_blank w

-- "A triple is subject, property, object: a URI or blank; a URI; a URI, blank or literal." (RDF 1.1 Concepts, 3.1)
unfoldable pub is_triple : Triple → Bool
is_triple t = is_resource t.subject && is_uri t.property && (is_resource t.object || is_literal t.object)

-- "Properties 2 to 5 make a statement, all others a fact." A statement is a triple of the RDF schema.
unfoldable pub is_statement : Triple → Bool
is_statement t = leb 2 t.property && leb t.property 5

-- A class in a statement: "no side is a vocabulary URI or literal"; "a class may be blank".
abbrev pub is_class : ℕ → Bool
is_class w = is_resource w && not (is_vocabulary w)

-- A property on a side of a statement: "both sides of 3 and the subject of 4 and 5 are URIs".
abbrev pub is_property : ℕ → Bool
is_property w = is_uri w && not (is_vocabulary w)

-- What the sides of a statement may be: 2 joins classes, 3 joins properties, 4 and 5 lead from a property to a class.
unfoldable pub are_sides_allowed : Triple → Bool
are_sides_allowed t =
    cond (eqb t.property sub_class_of) (is_class t.subject) (is_property t.subject)
    && cond (eqb t.property sub_property_of) (is_property t.object) (is_class t.object)

-- A row that may stand in the statements.
unfoldable pub is_allowed_statement : Triple → Bool
is_allowed_statement t = is_triple t && (is_statement t && are_sides_allowed t)

-- A row that may stand in the facts and in the kept facts.
unfoldable pub is_allowed_fact : Triple → Bool
is_allowed_fact t = is_triple t && not (is_statement t)
