-- The walks by the statements 2 and 3 alone are one or more steps of subclasses, or of subproperties. Assumes nothing.
use mathlib.Core.Path.{◌≡◌, refl, sym, ap, ◌∙◌, subst}
use mathlib.Core.Bool.{true}
use mathlib.Core.List.Memᴰ
use mathlib.Core.List.{List, Memᴰ}
use mathlib.Core.Logic.{◌↔◌, by_cases}
use Prim.Native.Nat.{ℕ, ◌+◌, ◌*◌, ◌^◌, ◌≤◌, ◌<◌}
use native.Mathlib.Omega.{arith}
use native.Mathlib.Decide.{ℕ_discrete}
use lib.ListN.{get_or}
use borrow.Author.Tests.{eqb-true}
use Rattle.spec.specs.declared.Triple.{Triple}
use Rattle.spec.specs.Terms.{triple, is_allowed_statement}
use Rattle.spec.specs.Rules.{Reach, stay, step}
use Rattle.spec.specs.Tables.{count, row_at, rows, most_statements}
use Rattle.spec.specs.inside.Comparison.{triple_eq}
use Rattle.spec.specs.inside.Laid.{WellFormed}
use Rattle.spec.proofs.Order.{of_subject, of_property, of_object}
use Rattle.saturate_schema.specs.inside.Walks.{Edge, Plus, edge, more}
use Rattle.saturate_schema.specs.inside.Nodes.{property_node, subject_node, object_node, applies, edges}
use Rattle.saturate_schema.proofs.Closing.{edges_of, edges_in, applies_two, applies_three, applies_via, subject_class_node, subject_property_node, object_class_node, object_property_node}
use Rattle.saturate_schema.proofs.Tables.{row-subject, row_property, row-object, row-member, member-row, statements_small, statements_are}
use Rattle.spec.specs.inside.Stated.{Steps}
use Rattle.spec.proofs.Steps.{steps_one, steps_more}

module _ (st : List ℕ) (w : WellFormed is_allowed_statement most_statements st) where
  -- The edges are the statements 2 and 3.
  abbrev E : List Edge
  E = edges st 0 (count st)

  -- ---- edges

  -- An edge joins two classes, or two properties.
  data Linked (a b : ℕ) : Type 0 where
    classes : Memᴰ (triple a 2 b) (rows st) → Linked a b
    properties : (p q : ℕ) → a ≡ property_node p → b ≡ property_node q → Memᴰ (triple p 3 q) (rows st) → Linked a b

  -- Statement i by its words.
  stated : (i s k o : ℕ) → i < count st → get_or st (i * 3 + 1) 0 ≡ s → get_or st (i * 3 + 2) 0 ≡ k → get_or st (i * 3 + 3) 0 ≡ o → Memᴰ (triple s k o) (rows st)
  stated i s k o l es ek eo =
      Memᴰ.cast (triple_eq (triple s k o) (row_at st i) (sym es ∙ sym (row-subject st i)) (sym ek ∙ sym (row_property st i)) (sym eo ∙ sym (row-object st i)))
      (row-member is_allowed_statement most_statements st w i l)

  linked : {a b : ℕ} → Memᴰ (a, b) E → Linked a b
  linked {a} {b} m =
      let o = edges_of st 0 (count st) (a, b) m in
      let i = o.number in
      let x : a ≡ subject_node st i = ap (λ (z : Edge). z.0) o.is in
      let y : b ≡ object_node st i = ap (λ (z : Edge). z.1) o.is in
      by_cases (ℕ_discrete (get_or st (i * 3 + 2) 0) 2)
      (λ e. classes (stated i a 2 b o.below (sym (subject_class_node st i e) ∙ sym x) e (sym (object_class_node st i (λ z. omega arith)) ∙ sym y)))
      (λ n. by_cases (ℕ_discrete (get_or st (i * 3 + 2) 0) 3)
      (λ e. properties (get_or st (i * 3 + 1) 0) (get_or st (i * 3 + 3) 0) (x ∙ subject_property_node st i n) (y ∙ object_property_node st i e) (stated i _ 3 _ o.below refl e refl))
      (λ k. absurd (omega (arith, eqb-true (get_or st (i * 3 + 2) 0) 0 (applies_via st 0 i n k ∙ o.applied), (statements_are st w).kinds i o.below))))

  -- A statement that applies is an edge.
  edge_at : (i a b : ℕ) → i < count st → a ≡ subject_node st i → b ≡ object_node st i → applies st 0 i ≡ true → Memᴰ (a, b) E
  edge_at i a b l x y e = rw (x, y) (edges_in st 0 (count st) i l e)

  class_edge : {c d : ℕ} → Memᴰ (triple c 2 d) (rows st) → Memᴰ (c, d) E
  class_edge {c} {d} m =
      let r = member-row is_allowed_statement most_statements st w m in
      let k : get_or st (r.0 * 3 + 2) 0 ≡ 2 = sym (row_property st r.0) ∙ of_property r.2 in
      let x : c ≡ subject_node st r.0 = sym (of_subject r.2) ∙ row-subject st r.0 ∙ sym (subject_class_node st r.0 k) in
      let y : d ≡ object_node st r.0 = sym (of_object r.2) ∙ row-object st r.0 ∙ sym (object_class_node st r.0 (λ z. omega arith)) in
      edge_at r.0 c d r.1 x y (sym (applies_two st 0 r.0 k))

  property_edge : {p q : ℕ} → Memᴰ (triple p 3 q) (rows st) → Memᴰ (property_node p, property_node q) E
  property_edge {p} {q} m =
      let r = member-row is_allowed_statement most_statements st w m in
      let k : get_or st (r.0 * 3 + 2) 0 ≡ 3 = sym (row_property st r.0) ∙ of_property r.2 in
      let n : ¬ (get_or st (r.0 * 3 + 2) 0 ≡ 2) = λ z. omega arith in
      let x : property_node p ≡ subject_node st r.0 = ap property_node (sym (of_subject r.2) ∙ row-subject st r.0) ∙ sym (subject_property_node st r.0 n) in
      let y : property_node q ≡ object_node st r.0 = ap property_node (sym (of_object r.2) ∙ row-object st r.0) ∙ sym (object_property_node st r.0 k) in
      edge_at r.0 (property_node p) (property_node q) r.1 x y (sym (applies_three st 0 r.0 n k))

  -- ---- walks

  -- A walk joins two classes, or two properties.
  data Walked (a b : ℕ) : Type 0 where
    as-classes : a < 2 ^ 32 → b < 2 ^ 32 → Steps (rows st) 2 a b → Walked a b
    as-properties : (p q : ℕ) → a ≡ property_node p → b ≡ property_node q → Steps (rows st) 3 p q → Walked a b

  walked_edge : {a b : ℕ} → Linked a b → Walked a b
  walked_edge {a} {b} (classes m) = let s = statements_small st w (triple a 2 b) m in as-classes s.0 s.1 (steps_one m)
  walked_edge (properties p q x y m) = as-properties p q x y (steps_one m)

  walked_more : {a b c : ℕ} → Walked a b → Linked b c → Walked a c
  walked_more {b = b} {c = c} (as-classes la lb s) (classes m) = as-classes la (statements_small st w (triple b 2 c) m).1 (steps_more s m)
  walked_more (as-classes la lb s) (properties p q x y m) = absurd (omega arith)
  walked_more {b = b} {c = c} (as-properties p q x y s) (classes m) = absurd (omega (arith, y, (statements_small st w (triple b 2 c) m).0))
  walked_more (as-properties p q x y s) (properties p' q' x' y' m) = let e : p' ≡ q = omega (arith, y, x') in as-properties p q' x y' (steps_more s (subst (λ (z : ℕ). Memᴰ (triple z 3 q') (rows st)) e m))

  walked : {a b : ℕ} → Plus E a b → Walked a b
  walked (edge m) = walked_edge (linked m)
  walked (more p m) = walked_more (walked p) (linked m)

  class_rest : {c d e : ℕ} → Plus E c d → Reach (rows st) 2 d e → Plus E c e
  class_rest p stay = p
  class_rest p (step r m) = more (class_rest p r) (class_edge m)

  property_rest : (p q r : ℕ) → Plus E (property_node p) (property_node q) → Reach (rows st) 3 q r → Plus E (property_node p) (property_node r)
  property_rest p q r u stay = u
  property_rest p q r u (step {b} t m) = more (property_rest p q b u t) (property_edge m)

  -- Classes are joined by a walk exactly when one or more subclass steps join them,
  pub class_walk : (c d : ℕ) → c < 2 ^ 32 → Plus (edges st 0 (count st)) c d ↔ Steps (rows st) 2 c d
  class_walk c d l = (λ p. out (walked p), λ s. class_rest (edge (class_edge s.first)) s.rest)
    where
      out : Walked c d → Steps (rows st) 2 c d
      out (as-classes lc ld s) = s
      out (as-properties p q x y s) = absurd (omega arith)

  -- and a class leads to classes alone.
  pub class_end : (c x : ℕ) → c < 2 ^ 32 → Plus (edges st 0 (count st)) c x → x < 2 ^ 32
  class_end c x l p = out (walked p)
    where
      out : Walked c x → x < 2 ^ 32
      out (as-classes lc ld s) = ld
      out (as-properties u q e y s) = absurd (omega arith)

  -- Properties are joined by a walk exactly when one or more subproperty steps join them,
  pub property_walk : (p q : ℕ) → Plus (edges st 0 (count st)) (property_node p) (property_node q) ↔ Steps (rows st) 3 p q
  property_walk p q = (λ u. out (walked u), λ s. property_rest p s.next q (edge (property_edge s.first)) s.rest)
    where
      out : Walked (property_node p) (property_node q) → Steps (rows st) 3 p q
      out (as-classes lc ld s) = absurd (omega arith)
      out (as-properties a b x y s) = let i : a ≡ p = omega arith in let j : b ≡ q = omega arith in subst (λ (z : ℕ). Steps (rows st) 3 z q) i (subst (Steps (rows st) 3 a) j s)

  -- and a property leads to properties alone.
  pub property_end : (p x : ℕ) → Plus (edges st 0 (count st)) (property_node p) x → 2 ^ 32 ≤ x
  property_end p x u = out (walked u)
    where
      out : Walked (property_node p) x → 2 ^ 32 ≤ x
      out (as-classes lc ld s) = absurd (omega arith)
      out (as-properties a b e y s) = omega arith
