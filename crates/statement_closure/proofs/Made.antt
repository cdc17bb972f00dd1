-- The words hold the closed pairs. Assumes nothing.
use mathlib.Core.Path.{◌≡◌, refl, sym, ap, ◌∙◌, subst}
use mathlib.Core.List.{List}
use mathlib.Core.Logic.{◌↔◌, inl, inr, by_cases}
use Prim.Native.Nat.{ℕ, ◌+◌, ◌*◌, ◌/◌, ◌%◌, ◌^◌, ◌≤◌, ◌<◌}
use native.Mathlib.Omega.{arith}
use native.Mathlib.Decide.{ℕ_discrete, dec_lt}
use lib.ListN.{length, get_or}
use Rattle.query_keys.specs.inside.Bits.{bit_of}
use Rattle.query_keys.proofs.BitLaws.{zero_bit}
use Rattle.spec.specs.declared.Triple.{Triple}
use Rattle.spec.specs.Terms.{is_allowed_statement}
use Rattle.spec.specs.Tables.{count, row_at, rows, most_statements}
use Rattle.spec.specs.inside.Laid.{WellFormed}
use Rattle.spec.proofs.TableFormed.{capacity_most}
use Rattle.saturate_schema.specs.inside.Walks.{Edge, Plus}
use Rattle.saturate_schema.specs.inside.Nodes.{property_node, subject_node, edges}
use Rattle.saturate_schema.specs.inside.Ascent.{Placed, Ends}
use Rattle.saturate_schema.proofs.Walks.{plus_ends}
use Rattle.saturate_schema.proofs.Closing.{edges_of, subject_class_node, subject_property_node}
use Rattle.saturate_schema.proofs.Ascent.{term_class, term-less}
use Rattle.saturate_schema.proofs.Tables.{row-subject, row_property, statements_are}
use Rattle.spec.specs.inside.Stated.{Steps}
use Rattle.spec.specs.inside.Given.{IsTransitive}
use Rattle.closure_words.specs.inside.Layout.{columns_of, term_at, bit_at, IsColumn, Shaped}
use Rattle.closure_words.specs.inside.Closure.{LeadsTo, IsStated, HasColumn, IsClosure}
use Rattle.closure_words.proofs.Columns.{first_class, first_other, end_class, end_other}
use Rattle.rows_zero.specs.inside.Effects.{WordsZeroed}
use Rattle.closure_columns.specs.inside.Headed.{Headed}
use Rattle.statement_closure.specs.inside.Filled.{Filled}
use Rattle.statement_closure.proofs.Walked.{class_walk, class_end, property_walk, property_end}

-- The statements of a well-formed table are at most 512.
pub statement-count : (st : List ℕ) → WellFormed is_allowed_statement most_statements st → (count st ≤ 512) × (count st * 3 < length st)
statement-count st w = (omega (arith, w.within, w.laid.counted, capacity_most most_statements st), omega (arith, w.laid.fits, w.laid.counted))

-- Rows of words that are 0 have no bits.
pub rows_empty : (ws₀ ws : List ℕ) (m : ℕ) → WordsZeroed 514 (514 + m * 16) ws₀ ws → (i c : ℕ) → i < m → c < 512 → bit_at ws i c ≡ 0
rows_empty ws₀ ws m z i c l lc = ap (λ (x : ℕ). bit_of x (c % 32)) (z.zeros (514 + i * 16 + c / 32) (omega arith) (omega arith)) ∙ zero_bit (c % 32)

module _ (st : List ℕ) (w : WellFormed is_allowed_statement most_statements st) (col ws₀ ws : List ℕ) (ns nc : ℕ)
    (g : Ends st (count st) col ns) (p : Placed col ns (2 ^ 32) nc) (s : Filled st (count st) col ns ws₀) (h : Headed col ns nc ws₀ ws) where
  few : ns ≤ 512
  few = omega (arith, g.few, (statement-count st w).0)

  class-at : (c : ℕ) → c < nc → term_at ws c ≡ get_or col c 0
  class-at c l = h.terms c (omega (arith, p.within)) ∙ term_class (get_or col c 0) (p.before c l)

  property-at : (c : ℕ) → nc ≤ c → c < ns → get_or col c 0 ≡ property_node (term_at ws c)
  property-at c f l = omega (arith, h.terms c l, term-less (get_or col c 0) (p.after c f l), p.after c f l)

  -- The columns of a property.
  class-column : (c : ℕ) → IsColumn ws 2 c ↔ (c < nc)
  class-column c = (λ i. omega (arith, i.below, end_class ws 2 refl, h.classes), λ l. record { from = omega (arith, first_class ws 2 refl); below = omega (arith, end_class ws 2 refl, h.classes) })

  not_two : ¬ (◌≡◌ {A = ℕ} 3 2)
  not_two e = omega arith

  property-column : (c : ℕ) → IsColumn ws 3 c ↔ ((nc ≤ c) × (c < ns))
  property-column c = (
    λ i. (omega (arith, i.from, first_other ws 3 not_two, h.classes), omega (arith, i.below, end_other ws 3 not_two, h.columns)),
    λ l. record { from = omega (arith, l.0, first_other ws 3 not_two, h.classes); below = omega (arith, l.1, end_other ws 3 not_two, h.columns) },
  )

  shape : length ws ≡ 8706 → Shaped ws
  shape long =
      record {
        long = long;
        classes = omega (arith, h.classes, h.columns, p.within);
        few = omega (arith, h.columns, few);
        rising = λ k c d f l e. by_cases (ℕ_discrete k 2)
            (λ q. let u = end_class ws k q in omega (arith, class-at c (omega (arith, u, h.classes)), class-at d (omega (arith, u, h.classes)), g.rising c d l (omega (arith, u, h.classes, p.within))))
            (λ n.
            let u = first_other ws k n in
            let v = end_other ws k n in
            omega (arith, property-at c (omega (arith, u, h.classes)) (omega (arith, v, h.columns)), property-at d (omega (arith, u, h.classes)) (omega (arith, v, h.columns)), g.rising c d l (omega (arith, v, h.columns))));
      }

  -- ---- the bits

  -- A bit is a walk.
  bit_walk : (i c : ℕ) → i < count st → c < ns → (bit_at ws i c ≡ 1) ↔ Plus (edges st 0 (count st)) (subject_node st i) (get_or col c 0)
  bit_walk i c l lc =
      let e = h.bits i c in
      (λ q. (s i c l lc).0 (sym e ∙ q), λ u. e ∙ (s i c l lc).1 u)

  -- The node of a subclass statement's subject,
  class_node : (i : ℕ) → i < count st → (row_at st i).property ≡ 2 → subject_node st i ≡ (row_at st i).subject
  class_node i l e = subject_class_node st i (sym (row_property st i) ∙ e) ∙ sym (row-subject st i)

  class_small : (i : ℕ) → i < count st → (row_at st i).subject < 2 ^ 32
  class_small i l = omega (arith, row-subject st i, (statements_are st w).small i l)

  -- and of a subproperty statement's.
  property_node_lem : (i : ℕ) → (row_at st i).property ≡ 3 → subject_node st i ≡ property_node (row_at st i).subject
  property_node_lem i e = subject_property_node st i (λ z. omega (arith, row_property st i)) ∙ ap property_node (sym (row-subject st i))

  class_bits : (i c : ℕ) → i < count st → (row_at st i).property ≡ 2 → c < ns → (bit_at ws i c ≡ 1) ↔ (IsColumn ws 2 c × Steps (rows st) 2 (row_at st i).subject (term_at ws c))
  class_bits i c l e lc =
      let n = class_node i l e in
      let m = class_small i l in
      by_cases (dec_lt c nc)
      (λ k.
      let t = class-at c k in (
        λ q. ((class-column c).1 k, subst (Steps (rows st) 2 (row_at st i).subject) (sym t) ((class_walk st w (row_at st i).subject (get_or col c 0) m).0 (rw n at ((bit_walk i c l lc).0 q)))),
        λ z. (bit_walk i c l lc).1 (rw n ((class_walk st w (row_at st i).subject (get_or col c 0) m).1 (subst (Steps (rows st) 2 (row_at st i).subject) t z.1))),
      ))
      (λ k. (
        λ q. absurd (omega (arith, class_end st w (row_at st i).subject (get_or col c 0) m (rw n at ((bit_walk i c l lc).0 q)), p.after c (omega arith) lc)),
        λ z. absurd (k ((class-column c).0 z.0)),
      ))

  property_bits : (i c : ℕ) → i < count st → (row_at st i).property ≡ 3 → c < ns → (bit_at ws i c ≡ 1) ↔ (IsColumn ws 3 c × Steps (rows st) 3 (row_at st i).subject (term_at ws c))
  property_bits i c l e lc =
      let n = property_node_lem i e in
      by_cases (dec_lt c nc)
      (λ k. (
        λ q. absurd (omega (arith, property_end st w (row_at st i).subject (get_or col c 0) (rw n at ((bit_walk i c l lc).0 q)), p.before c k)),
        λ z. absurd (omega (arith, ((property-column c).0 z.0).0)),
      ))
      (λ k.
      let t = property-at c (omega arith) lc in (
        λ q. ((property-column c).1 (omega arith, lc), (property_walk st w (row_at st i).subject (term_at ws c)).0 (rw (n, t) at ((bit_walk i c l lc).0 q))),
        λ z. (bit_walk i c l lc).1 (rw (n, t) ((property_walk st w (row_at st i).subject (term_at ws c)).1 z.1)),
      ))

  -- ---- the columns

  -- What a walk ends at is a column.
  record Column (x : ℕ) : Type 0 where
    place : ℕ
    below : place < ns
    is : get_or col place 0 ≡ x

  walk_column : {a x : ℕ} → Plus (edges st 0 (count st)) a x → Column x
  walk_column {x = x} u =
      let e = plus_ends u in
      let o = edges_of st 0 (count st) (e.start, x) e.there in
      let c = g.all o.number o.below in
      record { place = c.place; below = c.below; is = c.is ∙ sym (ap (λ (z : Edge). z.1) o.is) }

  class_has : (i y : ℕ) → i < count st → Steps (rows st) 2 (row_at st i).subject y → HasColumn ws 2 y
  class_has i y l q =
      let u = (class_walk st w (row_at st i).subject y (class_small i l)).1 q in
      let k = class_end st w (row_at st i).subject y (class_small i l) u in
      let c = walk_column u in
      let z : c.place < nc = by_cases (dec_lt c.place nc) (λ a. a) (λ a. absurd (omega (arith, p.after c.place (omega arith) c.below, c.is))) in
      record { column = c.place; of_property = (class-column c.place).1 z; term = class-at c.place z ∙ c.is }

  property_has : (i y : ℕ) → Steps (rows st) 3 (row_at st i).subject y → HasColumn ws 3 y
  property_has i y q =
      let c = walk_column ((property_walk st w (row_at st i).subject y).1 q) in
      let z : nc ≤ c.place = by_cases (dec_lt c.place nc) (λ a. absurd (omega (arith, p.before c.place a, c.is))) (λ a. omega arith) in
      record { column = c.place; of_property = (property-column c.place).1 (z, c.below); term = omega (arith, property-at c.place z c.below, c.is) }

  -- ---- both kinds

  -- The words hold the closed pairs.
  pub closure_made : length ws ≡ 8706 → IsClosure st ws
  closure_made long = record { shape = shape long; bits = bits; all = all }
    where
      bits : (i k c : ℕ) → IsStated st i k → c < columns_of ws → (bit_at ws i c ≡ 1) ↔ (IsColumn ws k c × LeadsTo st i (term_at ws c))
      bits i k c t l = by_kind t.transitive
        where
          by_kind : IsTransitive (row_at st i) → (bit_at ws i c ≡ 1) ↔ (IsColumn ws k c × LeadsTo st i (term_at ws c))
          by_kind (inl e) = rw (sym t.property ∙ e, e) (class_bits i c t.below e (omega (arith, l, h.columns)))
          by_kind (inr e) = rw (sym t.property ∙ e, e) (property_bits i c t.below e (omega (arith, l, h.columns)))

      all : (i k y : ℕ) → IsStated st i k → LeadsTo st i y → HasColumn ws k y
      all i k y t q = by_kind t.transitive
        where
          by_kind : IsTransitive (row_at st i) → HasColumn ws k y
          by_kind (inl e) = rw (sym t.property ∙ e) (class_has i y t.below (rw e at q))
          by_kind (inr e) = rw (sym t.property ∙ e) (property_has i y (rw e at q))
