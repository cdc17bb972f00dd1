-- The compiled statements, and what each fact adds to the support of a row, in the shape in which the run over the subjects
-- counts it. st are the words of the m statements; col the ns columns, the first nc of them classes; d the square of domains,
-- r the square of ranges; f the words of the facts. Definitions only.
use Rattle.std.specs.Prelude.{◌≡◌, cond, List, ℕ, zero, suc, ◌+◌, ◌*◌, ◌^◌, ◌≤◌, ◌<◌, get_or, eqb, ltb}
use Rattle.saturate_schema.specs.inside.Walks.{Plus}
use Rattle.saturate_schema.specs.inside.Nodes.{property_node, subject_node, edges, Columns}
use Rattle.saturate_schema.specs.inside.Squares.{at, Marks, Closed}
use Rattle.saturate_schema.specs.inside.Groups.{Statements}

-- What the run over the subjects is given of the statements. The square of domains says what a subject leads to by 2, 3 and 4,
-- itself left out; the square of ranges what it leads to by 2, 3 and 5.
pub record Compiled (st : List ℕ) (m : ℕ) (col : List ℕ) (ns nc : ℕ) (d r : List ℕ) : Type 0 where
  pub statements : Statements st m
  pub columns : Columns st m col ns
  pub few : nc ≤ ns
  pub classes : (c : ℕ) → c < nc → get_or col c 0 < 2 ^ 32
  pub properties : (c : ℕ) → nc ≤ c → c < ns → 2 ^ 32 ≤ get_or col c 0
  pub domains : Marks st m col ns (at d) (λ a b. Plus (edges st 4 m) a b × (¬ (a ≡ b)))
  pub ranges : Closed st m col ns (at r) (edges st 5 m)
  pub domain_bits : (i c : ℕ) → i < m → c < ns → at d i c ≤ 1
  pub range_bits : (i c : ℕ) → i < m → c < ns → at r i c ≤ 1

-- The terms of the columns: of the classes, which come first, and of the properties, none of them rdf:type.
pub record Keyed (col : List ℕ) (ns nc : ℕ) (key : List ℕ) : Type 0 where
  pub small : (c : ℕ) → c < ns → get_or key c 0 < 2 ^ 32
  pub class_term : (c : ℕ) → c < nc → get_or key c 0 ≡ get_or col c 0
  pub property_term : (c : ℕ) → nc ≤ c → c < ns → get_or col c 0 ≡ property_node (get_or key c 0)
  pub classes_rise : (c e : ℕ) → c < e → e < nc → get_or key c 0 < get_or key e 0
  pub properties_rise : (c e : ℕ) → nc ≤ c → c < e → e < ns → get_or key c 0 < get_or key e 0
  pub not_type : (c : ℕ) → nc ≤ c → c < ns → 2 ≤ get_or key c 0

-- The subject of fact y,
abbrev pub subject_at : List ℕ → ℕ → ℕ
subject_at f y = get_or f (y * 3 + 1) 0

-- its property,
abbrev pub property_at : List ℕ → ℕ → ℕ
property_at f y = get_or f (y * 3 + 2) 0

-- and its object.
abbrev pub object_at : List ℕ → ℕ → ℕ
object_at f y = get_or f (y * 3 + 3) 0

-- Column c of the row of a statement that starts at the node x; 0 where none does.
unfoldable pub node_bit : List ℕ → ℕ → List ℕ → ℕ → ℕ → ℕ
node_bit st zero sq x c = 0
node_bit st (suc m) sq x c = cond (eqb (subject_node st m) x) (at sq m c) (node_bit st m sq x c)

-- The node at which what fact y carries starts: the class of a typing, else the property.
unfoldable pub start_node : List ℕ → ℕ → ℕ
start_node f y = cond (eqb (property_at f y) 1) (object_at f y) (property_node (property_at f y))

-- The bit a, or else b.
abbrev pub either : ℕ → ℕ → ℕ
either a b = cond (eqb a 1) 1 b

-- 1 where fact y is x p o.
unfoldable pub explicit_at : List ℕ → ℕ → ℕ → ℕ → ℕ → ℕ
explicit_at f x p o y = cond (eqb (subject_at f y) x) (cond (eqb (property_at f y) p) (cond (eqb (object_at f y) o) 1 0) 0) 0

-- What a fact y of the subject x adds to column c: what its node leads to; and where its object is x too, what that gets by range.
unfoldable pub own_bit : List ℕ → ℕ → ℕ → List ℕ → List ℕ → List ℕ → ℕ → ℕ → ℕ → ℕ
own_bit st m nc d r f x c y =
    cond (eqb (property_at f y) 1) (node_bit st m d (start_node f y) c)
    (cond (eqb (object_at f y) x)
    (cond (ltb c nc) (either (node_bit st m d (start_node f y) c) (node_bit st m r (start_node f y) c)) (node_bit st m d (start_node f y) c))
    (node_bit st m d (start_node f y) c))

-- What fact y adds to column c as a fact of the subject x.
unfoldable pub subject_adds : List ℕ → ℕ → ℕ → List ℕ → List ℕ → List ℕ → ℕ → ℕ → ℕ → ℕ
subject_adds st m nc d r f x c y = cond (eqb (subject_at f y) x) (own_bit st m nc d r f x c y) 0

-- What fact y adds to column c as a fact of the object x and another subject: what its property leads to by range.
unfoldable pub object_adds : List ℕ → ℕ → List ℕ → List ℕ → ℕ → ℕ → ℕ → ℕ
object_adds st m r f x c y = cond (eqb (object_at f y) x) (cond (eqb (subject_at f y) x) 0 (node_bit st m r (property_node (property_at f y)) c)) 0

-- What fact y adds to a row x q o, where q is column c: 1 where it is a fact x p o and p leads to q.
unfoldable pub property_adds : List ℕ → ℕ → List ℕ → List ℕ → ℕ → ℕ → ℕ → ℕ → ℕ
property_adds st m d f x o c y = cond (eqb (subject_at f y) x) (cond (eqb (object_at f y) o) (node_bit st m d (property_node (property_at f y)) c) 0) 0
