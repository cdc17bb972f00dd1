-- The compiled statements, from what `columns`, `classes`, `terms`, `close` and `clear_own` ensure. Assumes nothing.
use mathlib.Core.Path.{◌≡◌, sym, ◌∙◌}
use mathlib.Core.List.{List}
use mathlib.Core.Logic.{by_cases}
use Prim.Native.Nat.{ℕ, ◌+◌, ◌*◌, ◌^◌, ◌≤◌, ◌<◌}
use native.Mathlib.Omega.{arith}
use native.Mathlib.Decide.{ℕ_discrete, dec_lt}
use lib.ListN.{get_or}
use Rattle.spec.specs.Terms.{is_allowed_statement}
use Rattle.spec.specs.Tables.{count, row_at, most_statements}
use Rattle.spec.specs.inside.Laid.{WellFormed}
use Rattle.spec.proofs.TableFormed.{capacity_most}
use Rattle.spec.proofs.Entailment.{not_vocabulary}
use Rattle.saturate_schema.specs.inside.Nodes.{property_node, subject_node, edges, Columns}
use Rattle.saturate_schema.specs.inside.Squares.{at, Bits, Closed, Cleared}
use Rattle.saturate_schema.specs.inside.Ascent.{Placed, Ends, term_of}
use Rattle.saturate_schema.specs.inside.Compiled.{Compiled, Keyed}
use Rattle.saturate_schema.proofs.Ascent.{ends_columns, term_class, term-less}
use Rattle.saturate_schema.proofs.Closing.{object_class_node, object_property_node}
use Rattle.saturate_schema.proofs.Tables.{triple-words, statement-triple, object_term_lem, row-object, row-member, row_allowed, statements_are, statements_plain}

module _ (st : List ℕ) (w : WellFormed is_allowed_statement most_statements st) (col : List ℕ) (ns nc : ℕ) (g : Ends st (count st) col ns) (p : Placed col ns (2 ^ 32) nc) where
  -- The columns that `close` asks for.
  pub columns_are : Columns st (count st) col ns
  columns_are = ends_columns st (count st) col ns (omega (arith, w.within, w.laid.counted, capacity_most most_statements st)) g

  -- The squares with what was cleared in the first.
  pub compiled_made : (d₀ d r : List ℕ) → Closed st (count st) col ns (at d₀) (edges st 4 (count st)) → Bits d₀ → Cleared st col ns d₀ d (count st) → Closed st (count st) col ns (at r) (edges st 5 (count st)) → Bits r → Compiled st (count st) col ns nc d r
  compiled_made d₀ d r cd bd cl cr br =
      record {
        statements = statements_are st w;
        columns = columns_are;
        few = p.within;
        classes = p.before;
        properties = p.after;
        domains = λ i c li lc. by_cases (ℕ_discrete (subject_node st i) (get_or col c 0))
            (λ e. ((λ h. absurd (omega (arith, cl.own i c li lc e))), λ z. absurd (z.1 e)))
            (λ n. let q = cl.other i c (wide c lc) n in ((λ h. ((cd i c li lc).0 (sym q ∙ h), n)), λ z. q ∙ (cd i c li lc).1 z.0));
        ranges = cr;
        domain_bits = λ i c li lc. by_cases (ℕ_discrete (subject_node st i) (get_or col c 0)) (λ e. omega (arith, cl.own i c li lc e)) (λ n. omega (arith, cl.other i c (wide c lc) n, bd i c (wide c lc)));
        range_bits = λ i c li lc. br i c (wide c lc);
      }
    where
      wide : (c : ℕ) → c < ns → c < 512
      wide c l = omega (arith, columns_are.few)

  -- A column that is a property is no vocabulary.
  property-column : (c q : ℕ) → c < ns → get_or col c 0 ≡ property_node q → 2 ≤ q
  property-column c q l e =
      let o = g.only c l in
      let m = row-member is_allowed_statement most_statements st w o.number o.below in
      let a = row_allowed is_allowed_statement most_statements st w o.number o.below in
      let small : get_or st (o.number * 3 + 3) 0 < 2 ^ 32 = rw (row-object st o.number) at (triple-words (row_at st o.number) (statement-triple (row_at st o.number) a)).object_small in
      by_cases (ℕ_discrete (get_or st (o.number * 3 + 2) 0) 3)
      (λ p. let z : get_or st (o.number * 3 + 3) 0 ≡ q = omega (arith, object_property_node st o.number p, o.is) in
      by_cases (dec_lt q 2)
      (λ b. absurd (not_vocabulary (statements_plain st w (row_at st o.number) m).1
      (omega (arith, row-object st o.number, object_term_lem (row_at st o.number) (statement-triple (row_at st o.number) a))) (omega (arith, row-object st o.number))))
      (λ b. omega arith))
      (λ n. absurd (omega (arith, object_class_node st o.number n, o.is)))

  -- The terms of the columns.
  pub keyed_made : (key : List ℕ) → ((c : ℕ) → c < ns → get_or key c 0 ≡ term_of (get_or col c 0)) → Keyed col ns nc key
  keyed_made key t =
      record {
        small = λ c l. by_cases (dec_lt c nc) (λ b. omega (arith, class-at c b, p.before c b)) (λ b. omega (arith, property-at c (omega arith) l, g.small c l));
        class_term = class-at;
        property_term = property-at;
        classes_rise = λ c e l h. omega (arith, class-at c (omega arith), class-at e h, g.rising c e l (omega (arith, p.within)));
        properties_rise = λ c e b l h. omega (arith, property-at c b (omega arith), property-at e (omega arith) h, g.rising c e l h);
        not_type = λ c b l. property-column c (get_or key c 0) l (property-at c b l);
      }
    where
      class-at : (c : ℕ) → c < nc → get_or key c 0 ≡ get_or col c 0
      class-at c l = t c (omega (arith, p.within)) ∙ term_class (get_or col c 0) (p.before c l)

      property-at : (c : ℕ) → nc ≤ c → c < ns → get_or col c 0 ≡ property_node (get_or key c 0)
      property-at c b l = omega (arith, t c l, term-less (get_or col c 0) (p.after c b l), p.after c b l)
