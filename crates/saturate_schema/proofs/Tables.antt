-- What well-formed tables of statements and of facts say of their words. Assumes nothing.
use mathlib.Core.Path.{◌≡◌, refl, sym, ap, ◌∙◌}
use mathlib.Core.Bool.{Bool, true, false, ◌&&◌}
use mathlib.Core.List.Memᴰ
use mathlib.Core.List.{List, Memᴰ}
use mathlib.Core.Logic.{◌⊎◌, ⊎_elim, by_cases}
use Prim.Native.Nat.{ℕ, ◌+◌, ◌*◌, ◌/◌, ◌^◌, ◌≤◌, ◌<◌}
use native.Mathlib.Omega.{arith}
use native.Mathlib.Decide.{ℕ_discrete}
use lib.ListN.{length, get_or}
use lib.Dec.{leb}
use borrow.Author.Tests.{eqb-true, leb-true, eq-eqb, ne_eqb}
use Rattle.spec.specs.declared.Triple.{Triple}
use Rattle.spec.specs.Terms.{is_uri, is_blank, is_literal, triple, is_resource, is_triple, is_statement, is_allowed_statement, is_allowed_fact}
use Rattle.spec.specs.inside.Comparison.{triple_eq, Less}
use Rattle.spec.proofs.Order.{of_subject, of_property, of_object}
use Rattle.spec.proofs.Lists.{or_cases, true-not_false}
use Rattle.spec.proofs.Ascending.{and_left, and_right}
use Rattle.spec.specs.Tables.{count, row_at, rows, most_statements, most_facts}
use Rattle.spec.specs.inside.Laid.{WellFormed}
use Rattle.spec.proofs.TableRows.{get_d_rows}
use Rattle.spec.proofs.TableFormed.{ready}
use Rattle.table.proofs.Place.{ascending-get_or, get_or-member, member-get_or}
use Rattle.spec.proofs.TableAll.{all-member}
use Rattle.spec.specs.inside.Entailment.{NoVocabulary}
use Rattle.spec.proofs.Entailment.{allowed_no_vocabulary, allowed_fact}
use Rattle.saturate_schema.specs.inside.Walks.{Edge}
use Rattle.saturate_schema.specs.inside.Nodes.{property_node, subject_node, object_node, applies, edges}
use Rattle.saturate_schema.specs.inside.Groups.{Statements}
use Rattle.saturate_schema.proofs.Closing.{edges_of, edges_in, applies_two, applies_three, applies_via, subject_class_node, subject_property_node, object_class_node, object_property_node}
use Rattle.saturate_schema.proofs.Meaning.{Link, sub_class, sub_property, typing, Edges, Small}

-- ---- the words of triples

-- A word of a kind below 3 is below 3 * 2 ^ 30.
uri_small : (w : ℕ) → is_uri w ≡ true → w < 2 ^ 32
unfolding is_uri
uri_small w e = omega (arith, eqb-true (w / 2 ^ 30) 0 (and_left _ _ e))

-- A URI is not 0.
pub uri_term : (w : ℕ) → is_uri w ≡ true → 1 ≤ w
unfolding is_uri
uri_term w e = by_cases (ℕ_discrete w 0) (λ z. absurd (true-not_false (sym e ∙ (rw z refl)))) (λ n. omega arith)

-- A literal too is a word below 2 ^ 32.
literal_small : (w : ℕ) → is_literal w ≡ true → w < 2 ^ 32
unfolding is_literal
literal_small w e = omega (arith, eqb-true (w / 2 ^ 30) 2 (and_left _ _ e))

-- A word below 2 ^ 31 is no literal,
pub plain_below : (w : ℕ) → w < 2 ^ 31 → is_literal w ≡ false
unfolding is_literal
plain_below w l = let k : ¬ (w / 2 ^ 30 ≡ 2) = λ z. omega arith in rw (ne_eqb (w / 2 ^ 30) 2 k)

-- and a resource is such a word.
resource_below : (w : ℕ) → is_resource w ≡ true → w < 2 ^ 31
unfolding is_uri is_blank
resource_below w e = ⊎_elim (λ u. omega (arith, eqb-true (w / 2 ^ 30) 0 (and_left _ _ u))) (λ u. omega (arith, eqb-true (w / 2 ^ 30) 1 (and_left _ _ u))) (or_cases (is_uri w) (is_blank w) e)

-- What the words of a triple are.
pub record Words (t : Triple) : Type 0 where
  pub subject_below : t.subject < 2 ^ 31
  pub subject_plain : is_literal t.subject ≡ false
  pub property_term : 1 ≤ t.property
  pub property_small : t.property < 2 ^ 32
  pub object_small : t.object < 2 ^ 32
  pub object_below : is_literal t.object ≡ false → t.object < 2 ^ 31
  pub object-literal : 2 ^ 31 ≤ t.object → is_literal t.object ≡ true

-- A triple has such words.
pub triple-words : (t : Triple) → is_triple t ≡ true → Words t
unfolding is_triple
triple-words t e =
    let h = and_left _ _ e in
    let s = resource_below t.subject (and_left _ _ h) in
    let o = or_cases (is_resource t.object) (is_literal t.object) (and_right (is_resource t.subject && is_uri t.property) _ e) in
    record {
      subject_below = s;
      subject_plain = plain_below t.subject s;
      property_term = uri_term t.property (and_right (is_resource t.subject) _ h);
      property_small = uri_small t.property (and_right (is_resource t.subject) _ h);
      object_small = ⊎_elim (λ r. omega (arith, resource_below t.object r)) (literal_small t.object) o;
      object_below = λ n. ⊎_elim (resource_below t.object) (λ l. absurd (true-not_false (sym l ∙ n))) o;
      object-literal = λ n. ⊎_elim (λ r. absurd (omega (arith, resource_below t.object r))) (λ l. l) o;
    }

-- No word of a triple is 0.
pub object_term_lem : (t : Triple) → is_triple t ≡ true → 1 ≤ t.object
unfolding is_triple is_uri is_blank is_literal
object_term_lem t e =
    by_cases (ℕ_discrete t.object 0)
    (λ z. absurd (true-not_false (sym (and_right (is_resource t.subject && is_uri t.property) _ e) ∙ (rw z refl))))
    (λ n. omega arith)

-- An allowed statement is a triple, and its property is 2 to 5.
pub statement-triple : (t : Triple) → is_allowed_statement t ≡ true → is_triple t ≡ true
unfolding is_allowed_statement
statement-triple t e = and_left _ _ e

-- The property of an allowed statement.
pub statement-kind : (t : Triple) → is_allowed_statement t ≡ true → (2 ≤ t.property) × (t.property ≤ 5)
unfolding is_allowed_statement is_statement
statement-kind t e =
    let h = and_left _ _ (and_right (is_triple t) _ e) in
    (leb-true 2 t.property (and_left _ _ h), leb-true t.property 5 (and_right (leb 2 t.property) _ h))

-- ---- rows by number

-- The words of row i are its parts: its subject,
pub row-subject : (ws : List ℕ) (i : ℕ) → (row_at ws i).subject ≡ get_or ws (i * 3 + 1) 0
unfolding row_at
row-subject ws i = refl

-- its property,
pub row_property : (ws : List ℕ) (i : ℕ) → (row_at ws i).property ≡ get_or ws (i * 3 + 2) 0
unfolding row_at
row_property ws i = let e : i * 3 + 1 + 1 ≡ i * 3 + 2 = omega arith in rw e

-- and its object.
pub row-object : (ws : List ℕ) (i : ℕ) → (row_at ws i).object ≡ get_or ws (i * 3 + 3) 0
unfolding row_at
row-object ws i = let e : i * 3 + 1 + 2 ≡ i * 3 + 3 = omega arith in rw e

module _ (allowed : Triple → Bool) (most : ℕ) (ws : List ℕ) (w : WellFormed allowed most ws) where
  -- Row i is a row of the table,
  pub row-member : (i : ℕ) → i < count ws → Memᴰ (row_at ws i) (rows ws)
  row-member i l =
      let h : i < length (rows ws) = omega (arith, w.laid.counted) in
      Memᴰ.cast (sym (get_d_rows ws i (triple 0 0 0) h)) (get_or-member (rows ws) i (triple 0 0 0) h)

  -- and allowed in it.
  pub row_allowed : (i : ℕ) → i < count ws → allowed (row_at ws i) ≡ true
  row_allowed i l = all-member allowed (rows ws) w.each_allowed (row-member i l)

  -- Each row of the table has a number.
  pub member-row : {t : Triple} → Memᴰ t (rows ws) → (i : ℕ) × (i < count ws) × (row_at ws i ≡ t)
  member-row m =
      let r = member-get_or (rows ws) m in
      (r.0, omega (arith, r.1, w.laid.counted), sym (get_d_rows ws r.0 (triple 0 0 0) r.1) ∙ r.2 (triple 0 0 0))

  -- The rows ascend.
  pub rows-ascend : (i j : ℕ) → i < j → j < count ws → Less (row_at ws i) (row_at ws j)
  rows-ascend i j l h =
      let k : j < length (rows ws) = omega (arith, w.laid.counted) in
      let g : i < length (rows ws) = omega arith in
      rw (get_d_rows ws i (triple 0 0 0) g, get_d_rows ws j (triple 0 0 0) k) at (ascending-get_or (rows ws) (triple 0 0 0) w.ascends i j l k)

-- The words of a fact.
pub fact-words : (f : List ℕ) → WellFormed is_allowed_fact most_facts f → (y : ℕ) → y < count f → Words (row_at f y)
fact-words f v y l = triple-words (row_at f y) (allowed_fact (row_at f y) (row_allowed is_allowed_fact most_facts f v y l)).0

-- ---- the statements

module _ (st : List ℕ) (w : WellFormed is_allowed_statement most_statements st) where
  -- The words of a statement.
  words_of : (t : Triple) → Memᴰ t (rows st) → Words t
  words_of t m = triple-words t (statement-triple t (all-member is_allowed_statement (rows st) w.each_allowed m))

  -- Their sides are words below 2 ^ 32,
  pub statements_small : Small (rows st)
  statements_small t m = let h = words_of t m in (omega (arith, h.subject_below), h.object_small)

  -- and no vocabulary.
  pub statements_plain : NoVocabulary (rows st)
  statements_plain = allowed_no_vocabulary (rows st) (λ t m. all-member is_allowed_statement (rows st) w.each_allowed m)

  -- Their properties, by number.
  kind_at : (i : ℕ) → i < count st → (2 ≤ get_or st (i * 3 + 2) 0) × (get_or st (i * 3 + 2) 0 ≤ 5)
  kind_at i l = rw (row_property st i) at (statement-kind (row_at st i) (row_allowed is_allowed_statement most_statements st w i l))

  -- A well-formed table of statements is what the search for a group asks for.
  pub statements_are : Statements st (count st)
  statements_are =
      record {
        rising = record { fits = omega (arith, w.laid.fits, w.laid.counted); ascends = ready w (count st) (sym w.laid.counted) };
        kinds = kind_at;
        small = λ k l. omega (arith, row-subject st k, (words_of (row_at st k) (row-member is_allowed_statement most_statements st w k l)).subject_below);
      }

  -- Its edges are its statements 2, 3 and via.
  module _ (via : ℕ) (h : (via ≡ 4) ⊎ (via ≡ 5)) where
    -- A statement by its words.
    stated : (i k : ℕ) → i < count st → get_or st (i * 3 + 2) 0 ≡ k → Memᴰ (triple (get_or st (i * 3 + 1) 0) k (get_or st (i * 3 + 3) 0)) (rows st)
    stated i k l e =
        Memᴰ.cast (triple_eq (triple (get_or st (i * 3 + 1) 0) k (get_or st (i * 3 + 3) 0)) (row_at st i) (sym (row-subject st i)) (sym e ∙ sym (row_property st i)) (sym (row-object st i)))
        (row-member is_allowed_statement most_statements st w i l)

    -- A link between equal nodes.
    moved : {a b x y : ℕ} → a ≡ x → b ≡ y → Link (rows st) via x y → Link (rows st) via a b
    moved p q k = rw (p, q) k

    -- A statement that applies is a link,
    link_at : (i : ℕ) → i < count st → applies st via i ≡ true → Link (rows st) via (subject_node st i) (object_node st i)
    link_at i l y =
        by_cases (ℕ_discrete (get_or st (i * 3 + 2) 0) 2)
        (λ e. sub_class _ _ (stated i 2 l e) (subject_class_node st i e) (object_class_node st i (λ z. omega arith)))
        (λ n. by_cases (ℕ_discrete (get_or st (i * 3 + 2) 0) 3)
        (λ e. sub_property _ _ (stated i 3 l e) (subject_property_node st i n) (object_property_node st i e))
        (λ k. typing _ _ (stated i via l (eqb-true _ _ (applies_via st via i n k ∙ y))) (subject_property_node st i n) (object_class_node st i k)))

    -- and a link is a statement that applies.
    edge_at : (i s k o : ℕ) → i < count st → row_at st i ≡ triple s k o → (get_or st (i * 3 + 1) 0 ≡ s) × (get_or st (i * 3 + 2) 0 ≡ k) × (get_or st (i * 3 + 3) 0 ≡ o)
    edge_at i s k o l e = (sym (row-subject st i) ∙ of_subject e, sym (row_property st i) ∙ of_property e, sym (row-object st i) ∙ of_object e)

    -- So each link is an edge.
    edge_of : {a b : ℕ} → Link (rows st) via a b → Memᴰ (a, b) (edges st via (count st))
    edge_of {a} {b} (sub_class c d m ea eb) =
        let r = member-row is_allowed_statement most_statements st w m in
        let q = edge_at r.0 c 2 d r.1 r.2 in
        let x : a ≡ subject_node st r.0 = ea ∙ sym q.0 ∙ sym (subject_class_node st r.0 q.1) in
        let y : b ≡ object_node st r.0 = eb ∙ sym q.2 ∙ sym (object_class_node st r.0 (λ z. omega (arith, q.1))) in
        rw (x, y) (edges_in st via (count st) r.0 r.1 (sym (applies_two st via r.0 q.1)))
    edge_of {a} {b} (sub_property c d m ea eb) =
        let r = member-row is_allowed_statement most_statements st w m in
        let q = edge_at r.0 c 3 d r.1 r.2 in
        let n : ¬ (get_or st (r.0 * 3 + 2) 0 ≡ 2) = λ z. omega (arith, q.1) in
        let x : a ≡ subject_node st r.0 = ea ∙ ap property_node (sym q.0) ∙ sym (subject_property_node st r.0 n) in
        let y : b ≡ object_node st r.0 = eb ∙ ap property_node (sym q.2) ∙ sym (object_property_node st r.0 q.1) in
        rw (x, y) (edges_in st via (count st) r.0 r.1 (sym (applies_three st via r.0 n q.1)))
    edge_of {a} {b} (typing c d m ea eb) =
        let r = member-row is_allowed_statement most_statements st w m in
        let q = edge_at r.0 c via d r.1 r.2 in
        let n : ¬ (get_or st (r.0 * 3 + 2) 0 ≡ 2) = λ z. ⊎_elim (λ v. omega (arith, q.1)) (λ v. omega (arith, q.1)) h in
        let k : ¬ (get_or st (r.0 * 3 + 2) 0 ≡ 3) = λ z. ⊎_elim (λ v. omega (arith, q.1)) (λ v. omega (arith, q.1)) h in
        let x : a ≡ subject_node st r.0 = ea ∙ ap property_node (sym q.0) ∙ sym (subject_property_node st r.0 n) in
        let y : b ≡ object_node st r.0 = eb ∙ sym q.2 ∙ sym (object_class_node st r.0 k) in
        rw (x, y) (edges_in st via (count st) r.0 r.1 (sym (applies_via st via r.0 n k) ∙ eq-eqb _ _ q.1))

    -- The edges are the links.
    pub edges_are : Edges (rows st) via (edges st via (count st))
    edges_are =
        record {
          out = λ {a} {b} m.
              let o = edges_of st via (count st) (a, b) m in
              moved (ap (λ (z : Edge). z.0) o.is) (ap (λ (z : Edge). z.1) o.is) (link_at o.number o.below o.applied);
          into = edge_of;
        }
