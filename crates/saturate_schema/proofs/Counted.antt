-- The supports as sums over the facts, in the shape in which the run over the subjects counts them. Assumes nothing.
use mathlib.Core.Path.{◌≡◌, refl, sym, ap, ◌∙◌, subst}
use mathlib.Core.Bool.{Bool, true, false, cond}
use mathlib.Core.List.{List}
use mathlib.Core.Logic.{◌↔◌, ◌⊎◌, inl, inr, ⊎_elim, by_cases}
use Prim.Native.Nat.{ℕ, zero, suc, ◌+◌, ◌*◌, ◌^◌, ◌≤◌, ◌<◌}
use native.Mathlib.Omega.{arith}
use native.Mathlib.Decide.{ℕ_discrete, dec_lt}
use lib.ListN.{get_or, drop}
use lib.Dec.{eqb}
use borrow.Author.Tests.{eqb-true, eqb-false, eq-eqb, ne_eqb, lt-ltb, le-ltb}
use Rattle.spec.specs.declared.Triple.{Triple}
use Rattle.spec.specs.Terms.{is_literal, triple, is_allowed_statement, is_allowed_fact}
use Rattle.spec.specs.inside.Comparison.{triple_eq}
use Rattle.spec.proofs.Order.{of_subject, of_property, of_object}
use Rattle.spec.proofs.Tests.{is_in_no}
use Rattle.spec.proofs.Lists.{cond_elim}
use Rattle.spec.specs.Tables.{count, triple_from, row_at, first_rows, rows, most_statements, most_facts}
use Rattle.spec.specs.inside.Laid.{WellFormed}
use Rattle.spec.proofs.TableRows.{triple_from-drop}
use Rattle.spec.specs.inside.Entailment.{HoldsBy}
use Rattle.spec.specs.computed.Carried.{carried, support}
use Rattle.spec.proofs.Entailment.{not_vocabulary}
use Rattle.spec.proofs.Carried.{carried_part, Part, as_property, as_subject, as_object}
use Rattle.spec.proofs.Kept.{one, one_yes, one_no}
use Rattle.spec.proofs.Saturation.{among, support_nil, support-cons}
use Rattle.saturate_schema.specs.inside.Walks.{Edge, Plus}
use Rattle.saturate_schema.specs.inside.Nodes.{property_node, subject_node, object_node, edges, none, Columns}
use Rattle.saturate_schema.specs.inside.Squares.{at, Marks}
use Rattle.saturate_schema.specs.inside.Sums.{sum_to}
use Rattle.saturate_schema.specs.inside.Compiled.{Compiled, subject_at, property_at, object_at, node_bit, start_node, either, explicit_at, own_bit, subject_adds, object_adds, property_adds}
use Rattle.saturate_schema.proofs.Walks.{plus_ends, plus_starts}
use Rattle.saturate_schema.proofs.Closing.{edges_of, subject_class_node, subject_property_node}
use Rattle.saturate_schema.proofs.Meaning.{key, key-type, key_other, not_type, Carry, carry, by_class, by_property, by_object_lem}
use Rattle.saturate_schema.proofs.Bits.{bit_is, Own, bit_own, bit_other, Led, bit_property}
use Rattle.saturate_schema.proofs.Sums.{sum_ext, sum-add, sum_zero, sum_first}
use Rattle.saturate_schema.proofs.Tables.{fact-words, row-subject, row_property, row-object, row-member, statements_are, statements_small, statements_plain, edges_are}

-- ---- the bit of a node

-- A statement that starts at the node x.
pub record Start (st : List ℕ) (m x : ℕ) : Type 0 where
  pub number : ℕ
  pub below : number < m
  pub is : subject_node st number ≡ x

-- What a walk starts at is where a statement starts.
pub walk_start : (st : List ℕ) (via m x y : ℕ) → Plus (edges st via m) x y → Start st m x
walk_start st via m x y p =
    let s = plus_starts p in
    let o = edges_of st via m (x, s.end) s.there in
    record { number = o.number; below = o.below; is = sym (ap (λ (z : Edge). z.0) o.is) }

-- What a walk ends at is a column.
pub walk_end : (st col : List ℕ) (via m ns x y : ℕ) → Columns st m col ns → Plus (edges st via m) x y → ((c : ℕ) → c < ns → ¬ (get_or col c 0 ≡ y)) → ⊥
walk_end st col via m ns x y w p n =
    let s = plus_ends p in
    let o = edges_of st via m (s.start, y) s.there in
    let q : y ≡ object_node st o.number = ap (λ (z : Edge). z.1) o.is in
    omega (arith, w.all o.number ns o.below (none refl (λ c l e. n c l (e ∙ sym q))))

module _ (st col sq : List ℕ) (ns c : ℕ) (P : ℕ → ℕ → Type 0) (lc : c < ns) where
  -- It is 0 or 1,
  pub node_bit_le : (m x : ℕ) → ((i : ℕ) → i < m → at sq i c ≤ 1) → node_bit st m sq x c ≤ 1
  unfolding node_bit
  node_bit_le zero x h = omega arith
  node_bit_le (suc m) x h = cond_elim (λ (n : ℕ). n ≤ 1) (eqb (subject_node st m) x) (λ _. h m (omega arith)) (λ _. node_bit_le m x (λ i l. h i (omega arith)))

  -- 1 only where P says so,
  node_bit_says : (m x : ℕ) → Marks st m col ns (at sq) P → node_bit st m sq x c ≡ 1 → P x (get_or col c 0)
  unfolding node_bit
  node_bit_says zero x g h = absurd (omega arith)
  node_bit_says (suc m) x g h =
      cond_elim (λ (n : ℕ). n ≡ 1 → P x (get_or col c 0)) (eqb (subject_node st m) x)
      (λ e b. subst (λ (z : ℕ). P z (get_or col c 0)) (eqb-true _ _ e) ((g m c (omega arith) lc).0 b))
      (λ _ b. node_bit_says m x (λ i k l lk. g i k (omega arith) lk) b)
      h

  -- and 1 where it does of a node that a statement starts at.
  node_bit_has : (m x i : ℕ) → i < m → subject_node st i ≡ x → Marks st m col ns (at sq) P → P x (get_or col c 0) → node_bit st m sq x c ≡ 1
  unfolding node_bit
  node_bit_has zero x i l e g p = absurd (omega arith)
  node_bit_has (suc m) x i l e g p =
      cond_elim (λ (n : ℕ). n ≡ 1) (eqb (subject_node st m) x)
      (λ q. (g m c (omega arith) lc).1 (subst (λ (z : ℕ). P z (get_or col c 0)) (sym (eqb-true _ _ q)) p))
      (λ q. by_cases (ℕ_discrete i m)
      (λ z. absurd (eqb-false _ _ q (ap (subject_node st) (sym z) ∙ e)))
      (λ z. node_bit_has m x i (omega arith) e (λ j k h lk. g j k (omega arith) lk) p))

  -- So it says what P says.
  pub node_bit_iff : (m x : ℕ) → Marks st m col ns (at sq) P → (P x (get_or col c 0) → Start st m x) → (node_bit st m sq x c ≡ 1) ↔ P x (get_or col c 0)
  node_bit_iff m x g s = (node_bit_says m x g, λ p. let i = s p in node_bit_has m x i.number i.below i.is g p)

-- Rows of one node have the same bits.
pub marks_even : (st col sq : List ℕ) (m ns : ℕ) (P : ℕ → ℕ → Type 0) → Marks st m col ns (at sq) P → ((i c : ℕ) → i < m → c < ns → at sq i c ≤ 1)
    → (i j c : ℕ) → i < m → j < m → c < ns → subject_node st i ≡ subject_node st j → at sq i c ≡ at sq j c
marks_even st col sq m ns P w b i j c li lj lc e =
    let same : at sq i c ≡ 1 → at sq j c ≡ 1 = λ z. (w j c lj lc).1 (subst (λ (x : ℕ). P x (get_or col c 0)) e ((w i c li lc).0 z)) in
    let back : at sq j c ≡ 1 → at sq i c ≡ 1 = λ z. (w i c li lc).1 (subst (λ (x : ℕ). P x (get_or col c 0)) (sym e) ((w j c lj lc).0 z)) in
    by_cases (ℕ_discrete (at sq i c) 1)
    (λ q. q ∙ sym (same q))
    (λ n. by_cases (ℕ_discrete (at sq j c) 1) (λ q. absurd (n (back q))) (λ z. omega (arith, b i c li lc, b j c lj lc)))

-- It is 0 where no statement starts at the node.
absent_node : (st sq : List ℕ) (c m x : ℕ) → ((i : ℕ) → i < m → ¬ (subject_node st i ≡ x)) → node_bit st m sq x c ≡ 0
unfolding node_bit
absent_node st sq c zero x h = refl
absent_node st sq c (suc m) x h = rw (ne_eqb (subject_node st m) x (h m (omega arith))) (absent_node st sq c m x (λ i l. h i (omega arith)))

-- ---- the clauses as equations

-- Where a fact's walks start.
pub start-type : (f : List ℕ) (y : ℕ) → property_at f y ≡ 1 → start_node f y ≡ object_at f y
unfolding start_node
start-type f y e = rw (eq-eqb (property_at f y) 1 e)

-- Any other fact starts at its property.
pub start_other : (f : List ℕ) (y : ℕ) → ¬ (property_at f y ≡ 1) → start_node f y ≡ property_node (property_at f y)
unfolding start_node
start_other f y n = rw (ne_eqb (property_at f y) 1 n)

-- It is the key of the fact.
start_key : (f : List ℕ) (y : ℕ) → start_node f y ≡ key (row_at f y)
start_key f y =
    by_cases (ℕ_discrete (property_at f y) 1)
    (λ e. start-type f y e ∙ sym (row-object f y) ∙ sym (key-type (row_at f y) (row_property f y ∙ e)))
    (λ n. start_other f y n ∙ ap property_node (sym (row_property f y)) ∙ sym (key_other (row_at f y) (λ e. n (sym (row_property f y) ∙ e))))

-- A fact is x p o, or is not.
explicit_one : (f : List ℕ) (x p o y : ℕ) → one (triple x p o) (row_at f y) ≡ explicit_at f x p o y
unfolding explicit_at
explicit_one f x p o y =
    cond_elim (λ (n : ℕ). one (triple x p o) (row_at f y) ≡ n) (eqb (subject_at f y) x)
    (λ a. cond_elim (λ (n : ℕ). one (triple x p o) (row_at f y) ≡ n) (eqb (property_at f y) p)
    (λ b. cond_elim (λ (n : ℕ). one (triple x p o) (row_at f y) ≡ n) (eqb (object_at f y) o)
    (λ c. one_yes (triple x p o) (row_at f y) (triple_eq (triple x p o) (row_at f y) (sym (row-subject f y ∙ eqb-true _ _ a)) (sym (row_property f y ∙ eqb-true _ _ b)) (sym (row-object f y ∙ eqb-true _ _ c))))
    (λ c. one_no (triple x p o) (row_at f y) (λ e. eqb-false _ _ c (sym (row-object f y) ∙ sym (of_object e)))))
    (λ b. one_no (triple x p o) (row_at f y) (λ e. eqb-false _ _ b (sym (row_property f y) ∙ sym (of_property e)))))
    (λ a. one_no (triple x p o) (row_at f y) (λ e. eqb-false _ _ a (sym (row-subject f y) ∙ sym (of_subject e))))

-- Nothing, whatever is asked.
cond_same : (a b : Bool) → ◌≡◌ {A = ℕ} (cond a (cond b 0 0) 0) 0
cond_same true true = refl
cond_same true false = refl
cond_same false b = refl

-- A fact of another object is not x p o,
pub explicit-object-not : (f : List ℕ) (x p o y : ℕ) → ¬ (object_at f y ≡ o) → explicit_at f x p o y ≡ 0
unfolding explicit_at
explicit-object-not f x p o y n = rw (ne_eqb (object_at f y) o n) (cond_same (eqb (subject_at f y) x) (eqb (property_at f y) p))

-- nor is a fact of another subject.
pub explicit_other : (f : List ℕ) (x p o y : ℕ) → ¬ (subject_at f y ≡ x) → explicit_at f x p o y ≡ 0
unfolding explicit_at
explicit_other f x p o y n = rw (ne_eqb (subject_at f y) x n)

-- A fact of the subject x is x p o where its property is p and its object o.
pub explicit_own : (f : List ℕ) (x p o y : ℕ) → subject_at f y ≡ x → explicit_at f x p o y ≡ cond (eqb (property_at f y) p) (cond (eqb (object_at f y) o) 1 0) 0
unfolding explicit_at
explicit_own f x p o y a = rw (eq-eqb (subject_at f y) x a)

module _ (st : List ℕ) (m nc : ℕ) (d r f : List ℕ) (x c y : ℕ) where
  -- What a fact of the subject x adds: the bit of its node in the square of domains,
  own-type : property_at f y ≡ 1 → own_bit st m nc d r f x c y ≡ node_bit st m d (start_node f y) c
  unfolding own_bit
  own-type e = rw (eq-eqb (property_at f y) 1 e)

  -- also where its object is another,
  own_single : ¬ (object_at f y ≡ x) → own_bit st m nc d r f x c y ≡ node_bit st m d (start_node f y) c
  unfolding own_bit
  own_single n = cond_elim (λ (k : ℕ). k ≡ node_bit st m d (start_node f y) c) (eqb (property_at f y) 1) (λ _. refl) (λ _. rw (ne_eqb (object_at f y) x n))

  -- also for the column of a property;
  own_property : nc ≤ c → own_bit st m nc d r f x c y ≡ node_bit st m d (start_node f y) c
  unfolding own_bit
  own_property l =
      cond_elim (λ (k : ℕ). k ≡ node_bit st m d (start_node f y) c) (eqb (property_at f y) 1) (λ _. refl)
      (λ _. cond_elim (λ (k : ℕ). k ≡ node_bit st m d (start_node f y) c) (eqb (object_at f y) x) (λ _. rw (le-ltb c nc l)) (λ _. refl))

  -- or, where its object is x too, in either square.
  own_both : ¬ (property_at f y ≡ 1) → object_at f y ≡ x → c < nc → own_bit st m nc d r f x c y ≡ either (node_bit st m d (start_node f y) c) (node_bit st m r (start_node f y) c)
  unfolding own_bit
  own_both n e l = rw (ne_eqb (property_at f y) 1 n, eq-eqb (object_at f y) x e, lt-ltb c nc l)

  -- As a fact of the subject x it adds that.
  pub subject_adds_lem : subject_at f y ≡ x → subject_adds st m nc d r f x c y ≡ own_bit st m nc d r f x c y
  unfolding subject_adds
  subject_adds_lem e = rw (eq-eqb (subject_at f y) x e)

  -- A fact of another subject adds nothing as a fact of the subject x,
  pub subject_adds-not : ¬ (subject_at f y ≡ x) → subject_adds st m nc d r f x c y ≡ 0
  unfolding subject_adds
  subject_adds-not n = rw (ne_eqb (subject_at f y) x n)

  -- nor does a fact of another object or of the subject x, as one of the object x.
  pub object_adds-not : ¬ (object_at f y ≡ x) → object_adds st m r f x c y ≡ 0
  unfolding object_adds
  object_adds-not n = rw (ne_eqb (object_at f y) x n)

  -- A fact of the subject x adds nothing as one of the object x.
  pub object_adds_own : subject_at f y ≡ x → object_adds st m r f x c y ≡ 0
  unfolding object_adds
  object_adds_own e = cond_elim (λ (k : ℕ). k ≡ 0) (eqb (object_at f y) x) (λ _. rw (eq-eqb (subject_at f y) x e)) (λ _. refl)

  -- A fact of the object x adds the bit of its property in the square of ranges, where its subject is another,
  pub object_adds_here : object_at f y ≡ x → object_adds st m r f x c y ≡ cond (eqb (subject_at f y) x) 0 (node_bit st m r (property_node (property_at f y)) c)
  unfolding object_adds
  object_adds_here e = rw (eq-eqb (object_at f y) x e)

  -- and so that bit where it is.
  pub object_adds_lem : object_at f y ≡ x → ¬ (subject_at f y ≡ x) → object_adds st m r f x c y ≡ node_bit st m r (property_node (property_at f y)) c
  unfolding object_adds
  object_adds_lem e n = rw (eq-eqb (object_at f y) x e, ne_eqb (subject_at f y) x n)

-- What a fact adds to a row of a property.
module _ (st : List ℕ) (m : ℕ) (d f : List ℕ) (x o c y : ℕ) where
  -- A fact of the subject x adds the bit of its property in the square of domains where its object is o,
  pub property_adds_own : subject_at f y ≡ x → property_adds st m d f x o c y ≡ cond (eqb (object_at f y) o) (node_bit st m d (property_node (property_at f y)) c) 0
  unfolding property_adds
  property_adds_own a = rw (eq-eqb (subject_at f y) x a)

  -- and so that bit where it is,
  pub property_adds_lem : subject_at f y ≡ x → object_at f y ≡ o → property_adds st m d f x o c y ≡ node_bit st m d (property_node (property_at f y)) c
  unfolding property_adds
  property_adds_lem a b = rw (eq-eqb (subject_at f y) x a, eq-eqb (object_at f y) o b)

  -- nothing for another subject,
  pub property_adds-subject : ¬ (subject_at f y ≡ x) → property_adds st m d f x o c y ≡ 0
  unfolding property_adds
  property_adds-subject n = rw (ne_eqb (subject_at f y) x n)

  -- and nothing for another object.
  pub property_adds-object : ¬ (object_at f y ≡ o) → property_adds st m d f x o c y ≡ 0
  unfolding property_adds
  property_adds-object n = cond_elim (λ (k : ℕ). k ≡ 0) (eqb (subject_at f y) x) (λ _. rw (ne_eqb (object_at f y) o n)) (λ _. refl)

-- One bit or another.
either_iff : (a b : ℕ) → (either a b ≡ 1) ↔ ((a ≡ 1) ⊎ (b ≡ 1))
either_iff a b = (
  cond_elim (λ (k : ℕ). k ≡ 1 → (a ≡ 1) ⊎ (b ≡ 1)) (eqb a 1) (λ e _. inl (eqb-true _ _ e)) (λ _ q. inr q),
  λ z. cond_elim (λ (k : ℕ). k ≡ 1) (eqb a 1) (λ _. refl) (λ n. ⊎_elim (λ e. absurd (eqb-false _ _ n e)) (λ q. q) z),
)

-- Either of two bits is a bit.
either_le : (a b : ℕ) → b ≤ 1 → either a b ≤ 1
either_le a b l = cond_elim (λ (k : ℕ). k ≤ 1) (eqb a 1) (λ _. omega arith) (λ _. l)

-- ---- the support as a sum over the facts

-- Over the rows of words,
support_first : (S : List Triple) (t : Triple) (n : ℕ) (ws : List ℕ) → support S (first_rows n ws) t ≡ sum_to (λ y. among t (carried S (triple_from ws (y * 3)))) n
unfolding first_rows sum_to
support_first S t zero ws = support_nil S t
support_first S t (suc n) ws =
    let e : sum_to (λ y. among t (carried S (triple_from (drop 3 ws) (y * 3)))) n ≡ sum_to (λ y. among t (carried S (triple_from ws (suc y * 3)))) n =
    sum_ext (λ y. among t (carried S (triple_from (drop 3 ws) (y * 3)))) (λ y. among t (carried S (triple_from ws (suc y * 3)))) n (λ y l. ap (λ (u : Triple). among t (carried S u)) (triple_from-drop 3 ws (y * 3) (suc y * 3) (omega arith))) in
    omega (arith, support-cons S (triple_from ws 0) (first_rows n (drop 3 ws)) t, support_first S t n (drop 3 ws), sum_first (λ y. among t (carried S (triple_from ws (y * 3)))) n)

-- and of a table.
pub support-sum : (S : List Triple) (f : List ℕ) (t : Triple) → support S (rows f) t ≡ sum_to (λ y. among t (carried S (row_at f y))) (count f)
unfolding rows row_at
support-sum S f t =
    support_first S t (count f) (drop 1 f)
    ∙ sum_ext (λ y. among t (carried S (triple_from (drop 1 f) (y * 3)))) (λ y. among t (carried S (triple_from f (y * 3 + 1)))) (count f)
    (λ y l. ap (λ (u : Triple). among t (carried S u)) (triple_from-drop 1 f (y * 3) (y * 3 + 1) (omega arith)))

-- ---- what each fact adds

-- No statement starts at the node of rdf:type.
pub no_type : (st : List ℕ) → WellFormed is_allowed_statement most_statements st → (i : ℕ) → i < count st → ¬ (subject_node st i ≡ property_node 1)
no_type st w i l e =
    by_cases (ℕ_discrete (get_or st (i * 3 + 2) 0) 2)
    (λ q. omega (arith, subject_class_node st i q, (statements_are st w).small i l))
    (λ n. not_vocabulary (statements_plain st w (row_at st i) (row-member is_allowed_statement most_statements st w i l)).0
    (omega (arith, subject_property_node st i n, row-subject st i)) (omega (arith, subject_property_node st i n, row-subject st i)))

-- The compiled statements, and a table of facts.
module _ (st col d r f : List ℕ) (ns nc : ℕ) (w : WellFormed is_allowed_statement most_statements st) (v : WellFormed is_allowed_fact most_facts f) (k : Compiled st (count st) col ns nc d r) where
  -- The bits of nodes.
  domain_iff : (x c : ℕ) → c < ns → (node_bit st (count st) d x c ≡ 1) ↔ (Plus (edges st 4 (count st)) x (get_or col c 0) × (¬ (x ≡ get_or col c 0)))
  domain_iff x c l = node_bit_iff st col d ns c (λ a b. Plus (edges st 4 (count st)) a b × (¬ (a ≡ b))) l (count st) x k.domains (λ p. walk_start st 4 (count st) x (get_or col c 0) p.0)

  -- The same for the square of ranges.
  range_iff : (x c : ℕ) → c < ns → (node_bit st (count st) r x c ≡ 1) ↔ Plus (edges st 5 (count st)) x (get_or col c 0)
  range_iff x c l = node_bit_iff st col r ns c (Plus (edges st 5 (count st))) l (count st) x k.ranges (walk_start st 5 (count st) x (get_or col c 0))

  -- The bit of a node is 0 or 1,
  domain_le : (x c : ℕ) → c < ns → node_bit st (count st) d x c ≤ 1
  domain_le x c l = node_bit_le st col d ns c (λ a b. ℕ) l (count st) x (λ i h. k.domain_bits i c h l)

  -- in both squares.
  range_le : (x c : ℕ) → c < ns → node_bit st (count st) r x c ≤ 1
  range_le x c l = node_bit_le st col r ns c (λ a b. ℕ) l (count st) x (λ i h. k.range_bits i c h l)

  -- So is what a fact adds.
  own_le : (x c y : ℕ) → c < ns → own_bit st (count st) nc d r f x c y ≤ 1
  own_le x c y l =
      by_cases (ℕ_discrete (property_at f y) 1)
      (λ e. omega (arith, own-type st (count st) nc d r f x c y e, domain_le (start_node f y) c l))
      (λ n. by_cases (ℕ_discrete (object_at f y) x)
      (λ e. by_cases (dec_lt c nc)
      (λ h. omega (arith, own_both st (count st) nc d r f x c y n e h, either_le (node_bit st (count st) d (start_node f y) c) (node_bit st (count st) r (start_node f y) c) (range_le (start_node f y) c l)))
      (λ h. omega (arith, own_property st (count st) nc d r f x c y (omega arith), domain_le (start_node f y) c l)))
      (λ z. omega (arith, own_single st (count st) nc d r f x c y z, domain_le (start_node f y) c l)))

  -- A fact of the object adds 0 or 1,
  pub object_adds_le : (x c y : ℕ) → c < ns → object_adds st (count st) r f x c y ≤ 1
  object_adds_le x c y l =
      by_cases (ℕ_discrete (subject_at f y) x)
      (λ e. omega (arith, object_adds_own st (count st) nc d r f x c y e))
      (λ n. by_cases (ℕ_discrete (object_at f y) x)
      (λ e. omega (arith, object_adds_lem st (count st) nc d r f x c y e n, range_le (property_node (property_at f y)) c l))
      (λ z. omega (arith, object_adds-not st (count st) nc d r f x c y z)))

  -- and for a property.
  pub property_adds_le : (x o c y : ℕ) → c < ns → property_adds st (count st) d f x o c y ≤ 1
  property_adds_le x o c y l =
      by_cases (ℕ_discrete (subject_at f y) x)
      (λ e. by_cases (ℕ_discrete (object_at f y) o)
      (λ q. omega (arith, property_adds_lem st (count st) d f x o c y e q, domain_le (property_node (property_at f y)) c l))
      (λ n. omega (arith, property_adds-object st (count st) d f x o c y n)))
      (λ n. omega (arith, property_adds-subject st (count st) d f x o c y n))

  -- ---- the bits are what the facts carry

  -- What a fact leads to by domains,
  domain_own : (y c : ℕ) → c < ns → (node_bit st (count st) d (start_node f y) c ≡ 1) ↔ (Plus (edges st 4 (count st)) (key (row_at f y)) (get_or col c 0) × (¬ (key (row_at f y) ≡ get_or col c 0)))
  domain_own y c l = rw (start_key f y) (domain_iff (key (row_at f y)) c l)

  -- and by ranges.
  range_own : (y c : ℕ) → c < ns → (node_bit st (count st) r (property_node (property_at f y)) c ≡ 1) ↔ Plus (edges st 5 (count st)) (property_node (row_at f y).property) (get_or col c 0)
  range_own y c l = rw (row_property f y) (range_iff (property_node (property_at f y)) c l)

  -- The object of fact y gets a class by range.
  Ranged : ℕ → ℕ → ℕ → Type 0
  Ranged x c y = (is_literal (row_at f y).object ≡ false) × (¬ ((row_at f y).property ≡ 1)) × (x ≡ (row_at f y).object) × Plus (edges st 5 (count st)) (property_node (row_at f y).property) (get_or col c 0)

  -- A fact that is no typing.
  not_typing : (y : ℕ) → ¬ (property_at f y ≡ 1) → ¬ ((row_at f y).property ≡ 1)
  not_typing y n e = n (sym (row_property f y) ∙ e)

  -- The bit in the square of ranges says so.
  ranged : (x c y : ℕ) → c < ns → is_literal x ≡ false → object_at f y ≡ x → ¬ (property_at f y ≡ 1) → node_bit st (count st) r (property_node (property_at f y)) c ≡ 1 → Ranged x c y
  unfolding Ranged
  ranged x c y l p o n b = let e : (row_at f y).object ≡ x = row-object f y ∙ o in (ap is_literal e ∙ p, not_typing y n, sym e, (range_own y c l).0 b)

  -- What a fact of the subject x adds to the column of a class.
  own_iff : (x c y : ℕ) (l : y < count f) → c < nc → is_literal x ≡ false
      → (own_bit st (count st) nc d r f x c y ≡ 1)
      ↔ Own (rows st) (row_at f y) (statements_small st w) (statements_plain st w) (fact-words f v y l).object_small (edges st 4 (count st)) (edges st 5 (count st)) (edges_are st w 4 (inl refl)) (edges_are st w 5 (inr refl)) x (get_or col c 0)
  unfolding Ranged
  own_iff x c y l lc p = (fore, back)
    where
      lt : c < ns
      lt = omega (arith, k.few)

      fore : own_bit st (count st) nc d r f x c y ≡ 1 → (Plus (edges st 4 (count st)) (key (row_at f y)) (get_or col c 0) × (¬ (key (row_at f y) ≡ get_or col c 0))) ⊎ Ranged x c y
      fore b =
          by_cases (ℕ_discrete (property_at f y) 1)
          (λ e. inl ((domain_own y c lt).0 (sym (own-type st (count st) nc d r f x c y e) ∙ b)))
          (λ n. by_cases (ℕ_discrete (object_at f y) x)
          (λ e. ⊎_elim
          (λ a. inl ((domain_own y c lt).0 a))
          (λ a. inr (ranged x c y lt p e n (rw (start_other f y n) at a)))
          ((either_iff _ _).0 (sym (own_both st (count st) nc d r f x c y n e lc) ∙ b)))
          (λ z. inl ((domain_own y c lt).0 (sym (own_single st (count st) nc d r f x c y z) ∙ b))))

      left : node_bit st (count st) d (start_node f y) c ≡ 1 → own_bit st (count st) nc d r f x c y ≡ 1
      left a =
          by_cases (ℕ_discrete (property_at f y) 1)
          (λ e. own-type st (count st) nc d r f x c y e ∙ a)
          (λ n. by_cases (ℕ_discrete (object_at f y) x)
          (λ e. own_both st (count st) nc d r f x c y n e lc ∙ (either_iff _ _).1 (inl a))
          (λ z. own_single st (count st) nc d r f x c y z ∙ a))

      right : Ranged x c y → own_bit st (count st) nc d r f x c y ≡ 1
      right z =
          let n : ¬ (property_at f y ≡ 1) = λ e. z.1 (row_property f y ∙ e) in
          own_both st (count st) nc d r f x c y n (sym (row-object f y) ∙ sym z.2) lc
          ∙ (either_iff (node_bit st (count st) d (start_node f y) c) (node_bit st (count st) r (start_node f y) c)).1 (inr (ap (λ (q : ℕ). node_bit st (count st) r q c) (start_other f y n) ∙ (range_own y c lt).1 z.3))

      back : (Plus (edges st 4 (count st)) (key (row_at f y)) (get_or col c 0) × (¬ (key (row_at f y) ≡ get_or col c 0))) ⊎ Ranged x c y → own_bit st (count st) nc d r f x c y ≡ 1
      back (inl a) = left ((domain_own y c lt).1 a)
      back (inr z) = right z

  -- What a fact of another subject adds to it.
  other_iff : (x c y : ℕ) → c < ns → is_literal x ≡ false → ¬ (subject_at f y ≡ x) → (object_adds st (count st) r f x c y ≡ 1) ↔ Ranged x c y
  unfolding Ranged
  other_iff x c y l p s = (fore, λ z. object_adds_lem st (count st) nc d r f x c y (sym (row-object f y) ∙ sym z.2) s ∙ (range_own y c l).1 z.3)
    where
      fore : object_adds st (count st) r f x c y ≡ 1 → Ranged x c y
      fore b =
          by_cases (ℕ_discrete (object_at f y) x)
          (λ e.
          let h : node_bit st (count st) r (property_node (property_at f y)) c ≡ 1 = sym (object_adds_lem st (count st) nc d r f x c y e s) ∙ b in
          ranged x c y l p e (λ q. omega (arith, absent_node st r c (count st) (property_node 1) (no_type st w), ap (λ (z : ℕ). node_bit st (count st) r (property_node z) c) q)) h)
          (λ n. absurd (omega (arith, object_adds-not st (count st) nc d r f x c y n)))

  -- What any fact adds to the support of x 1 c.
  class_bit : (x c y : ℕ) → c < nc → is_literal x ≡ false → y < count f
      → among (triple x 1 (get_or col c 0)) (carried (rows st) (row_at f y)) ≡ explicit_at f x 1 (get_or col c 0) y + (subject_adds st (count st) nc d r f x c y + object_adds st (count st) r f x c y)
  unfolding Ranged
  class_bit x c y lc p l =
      let lt : c < ns = omega (arith, k.few) in
      by_cases (ℕ_discrete (subject_at f y) x)
      (λ e. omega (
        arith,
        bit_own (rows st) (row_at f y) (statements_small st w) (statements_plain st w) (fact-words f v y l).object_small (edges st 4 (count st)) (edges st 5 (count st)) (edges_are st w 4 (inl refl)) (edges_are st w 5 (inr refl))
            x (get_or col c 0) (own_bit st (count st) nc d r f x c y) (k.classes c lc) (sym (row-subject f y ∙ e)) (own_le x c y lt) (own_iff x c y l lc p),
        explicit_one f x 1 (get_or col c 0) y,
        subject_adds_lem st (count st) nc d r f x c y e,
        object_adds_own st (count st) nc d r f x c y e,
      ))
      (λ n. omega (
        arith,
        bit_other (rows st) (row_at f y) (statements_small st w) (statements_plain st w) (fact-words f v y l).object_small (edges st 4 (count st)) (edges st 5 (count st)) (edges_are st w 4 (inl refl)) (edges_are st w 5 (inr refl))
            x (get_or col c 0) (object_adds st (count st) r f x c y) (k.classes c lc) (λ e. n (sym (row-subject f y) ∙ sym e)) (object_adds_le x c y lt) (other_iff x c y lt p n),
        explicit_other f x 1 (get_or col c 0) y n,
        subject_adds-not st (count st) nc d r f x c y n,
      ))

  -- The support of x 1 c, for a class c that is a column: whether it is explicit, what the facts of the subject x add to the column,
  -- and what those of the object x and another subject add.
  pub class-support : (x c : ℕ) → c < nc → is_literal x ≡ false
      → support (rows st) (rows f) (triple x 1 (get_or col c 0))
      ≡ sum_to (explicit_at f x 1 (get_or col c 0)) (count f) + (sum_to (subject_adds st (count st) nc d r f x c) (count f) + sum_to (object_adds st (count st) r f x c) (count f))
  class-support x c lc p =
      support-sum (rows st) f (triple x 1 (get_or col c 0))
      ∙ sum-add (λ y. among (triple x 1 (get_or col c 0)) (carried (rows st) (row_at f y))) (explicit_at f x 1 (get_or col c 0)) (λ y. subject_adds st (count st) nc d r f x c y + object_adds st (count st) r f x c y) (count f) (λ y l. class_bit x c y lc p l)
      ∙ ap (λ (n : ℕ). sum_to (explicit_at f x 1 (get_or col c 0)) (count f) + n) (sum-add (λ y. subject_adds st (count st) nc d r f x c y + object_adds st (count st) r f x c y) (subject_adds st (count st) nc d r f x c) (object_adds st (count st) r f x c) (count f) (λ y l. refl))

  -- What a fact adds to a row of a property.
  led_iff : (x q o c y : ℕ) (l : y < count f) → c < ns → get_or col c 0 ≡ property_node q
      → (property_adds st (count st) d f x o c y ≡ 1)
      ↔ Led (rows st) (row_at f y) (statements_small st w) (statements_plain st w) (fact-words f v y l).object_small (edges st 4 (count st)) (edges st 5 (count st)) (edges_are st w 4 (inl refl)) (edges_are st w 5 (inr refl)) x q o
  led_iff x q o c y l lc e = (fore, back)
    where
      fore : property_adds st (count st) d f x o c y ≡ 1 → (x ≡ (row_at f y).subject) × (o ≡ (row_at f y).object) × Plus (edges st 4 (count st)) (key (row_at f y)) (property_node q) × (¬ (key (row_at f y) ≡ property_node q))
      fore b =
          by_cases (ℕ_discrete (subject_at f y) x)
          (λ s. by_cases (ℕ_discrete (object_at f y) o)
          (λ h.
          let g : node_bit st (count st) d (property_node (property_at f y)) c ≡ 1 = sym (property_adds_lem st (count st) d f x o c y s h) ∙ b in
          let n : ¬ (property_at f y ≡ 1) = λ z. omega (arith, absent_node st d c (count st) (property_node 1) (no_type st w), ap (λ (j : ℕ). node_bit st (count st) d (property_node j) c) z) in
          let p = (domain_own y c lc).0 (ap (λ (j : ℕ). node_bit st (count st) d j c) (start_other f y n) ∙ g) in
          (sym (row-subject f y ∙ s), sym (row-object f y ∙ h), rw e at p.0, λ z. p.1 (z ∙ sym e)))
          (λ n. absurd (omega (arith, property_adds-object st (count st) d f x o c y n))))
          (λ n. absurd (omega (arith, property_adds-subject st (count st) d f x o c y n)))

      back : (x ≡ (row_at f y).subject) × (o ≡ (row_at f y).object) × Plus (edges st 4 (count st)) (key (row_at f y)) (property_node q) × (¬ (key (row_at f y) ≡ property_node q)) → property_adds st (count st) d f x o c y ≡ 1
      back z =
          let n : ¬ (property_at f y ≡ 1) = λ h. not_type (rows st) (row_at f y) (statements_small st w) (statements_plain st w) (fact-words f v y l).object_small (edges st 4 (count st)) (edges st 5 (count st)) (edges_are st w 4 (inl refl)) (edges_are st w 5 (inr refl)) q (inr z.2) (row_property f y ∙ h) in
          let p : Plus (edges st 4 (count st)) (key (row_at f y)) (get_or col c 0) = rw e z.2 in
          property_adds_lem st (count st) d f x o c y (sym (row-subject f y) ∙ sym z.0) (sym (row-object f y) ∙ sym z.1)
          ∙ ap (λ (j : ℕ). node_bit st (count st) d j c) (sym (start_other f y n))
          ∙ (domain_own y c lc).1 (p, λ h. z.3 (h ∙ e))

  -- What any fact adds to the support of x q o.
  property_bit : (x q o c y : ℕ) → ¬ (q ≡ 1) → c < ns → get_or col c 0 ≡ property_node q → y < count f
      → among (triple x q o) (carried (rows st) (row_at f y)) ≡ explicit_at f x q o y + property_adds st (count st) d f x o c y
  property_bit x q o c y n lc e l =
      omega (
        arith,
        bit_property (rows st) (row_at f y) (statements_small st w) (statements_plain st w) (fact-words f v y l).object_small (edges st 4 (count st)) (edges st 5 (count st)) (edges_are st w 4 (inl refl)) (edges_are st w 5 (inr refl))
            x q o (property_adds st (count st) d f x o c y) n (property_adds_le x o c y lc) (led_iff x q o c y l lc e),
        explicit_one f x q o y,
      )

  -- The support of x q o, for a property q other than rdf:type that is a column: whether it is explicit, and what the facts x p o add
  -- whose property leads to q.
  pub property-support : (x q o c : ℕ) → ¬ (q ≡ 1) → c < ns → get_or col c 0 ≡ property_node q
      → support (rows st) (rows f) (triple x q o) ≡ sum_to (explicit_at f x q o) (count f) + sum_to (property_adds st (count st) d f x o c) (count f)
  property-support x q o c n lc e =
      support-sum (rows st) f (triple x q o)
      ∙ sum-add (λ y. among (triple x q o) (carried (rows st) (row_at f y))) (explicit_at f x q o) (property_adds st (count st) d f x o c) (count f) (λ y l. property_bit x q o c y n lc e l)

  -- ---- rows that are explicit or not at all

  -- A class that is no column is given to no subject but explicitly.
  class_bit_none : (x o y : ℕ) → ((c : ℕ) → c < nc → ¬ (get_or col c 0 ≡ o)) → y < count f → among (triple x 1 o) (carried (rows st) (row_at f y)) ≡ explicit_at f x 1 o y
  class_bit_none x o y n l =
      by_cases (dec_lt o (2 ^ 32))
      (λ small. by_cases (ℕ_discrete (subject_at f y) x)
      (λ e. omega (
        arith,
        bit_own (rows st) (row_at f y) (statements_small st w) (statements_plain st w) (fact-words f v y l).object_small (edges st 4 (count st)) (edges st 5 (count st)) (edges_are st w 4 (inl refl)) (edges_are st w 5 (inr refl))
            x o 0 small (sym (row-subject f y ∙ e)) (omega arith)
            ((λ q. absurd (omega arith)), λ z. absurd (⊎_elim (λ a. walk_end st col 4 (count st) ns _ o k.columns a.0 (no-column small)) (λ a. walk_end st col 5 (count st) ns _ o k.columns a.3 (no-column small)) z)),
        explicit_one f x 1 o y,
      ))
      (λ s. omega (
        arith,
        bit_other (rows st) (row_at f y) (statements_small st w) (statements_plain st w) (fact-words f v y l).object_small (edges st 4 (count st)) (edges st 5 (count st)) (edges_are st w 4 (inl refl)) (edges_are st w 5 (inr refl))
            x o 0 small (λ e. s (sym (row-subject f y) ∙ sym e)) (omega arith)
            ((λ q. absurd (omega arith)), λ a. absurd (walk_end st col 5 (count st) ns _ o k.columns a.3 (no-column small))),
        explicit_other f x 1 o y s,
      )))
      (λ large.
      bit_is (rows st) (row_at f y) (triple x 1 o) 0 (statements_plain st w) (omega arith) ((λ q. absurd (omega arith)), λ h. absurd (too_large large (out h)))
      ∙ sym (explicit-large large))
    where
      no-column : o < 2 ^ 32 → (c : ℕ) → c < ns → ¬ (get_or col c 0 ≡ o)
      no-column small c h e = by_cases (dec_lt c nc) (λ b. n c b e) (λ b. omega (arith, k.properties c (omega arith) h))

      out : HoldsBy (rows st) (row_at f y) (triple x 1 o) → Carry (row_at f y) (edges st 4 (count st)) (edges st 5 (count st)) (triple x 1 o)
      out h = carry (rows st) (row_at f y) (statements_small st w) (statements_plain st w) (fact-words f v y l).object_small (edges st 4 (count st)) (edges st 5 (count st)) (edges_are st w 4 (inl refl)) (edges_are st w 5 (inr refl)) h

      too_large : ¬ (o < 2 ^ 32) → Carry (row_at f y) (edges st 4 (count st)) (edges st 5 (count st)) (triple x 1 o) → ⊥
      too_large g (by_class a p b z) = g b
      too_large g (by_property a b z) = g (rw b (fact-words f v y l).object_small)
      too_large g (by_object_lem a b s p h z) = g h

      explicit-large : ¬ (o < 2 ^ 32) → explicit_at f x 1 o y ≡ 0
      explicit-large g = explicit-object-not f x 1 o y (λ e. g (rw (sym e ∙ sym (row-object f y)) (fact-words f v y l).object_small))

  -- The support of x 1 o, for a class o that is no column: whether it is explicit.
  pub class-support_none : (x o : ℕ) → ((c : ℕ) → c < nc → ¬ (get_or col c 0 ≡ o)) → support (rows st) (rows f) (triple x 1 o) ≡ sum_to (explicit_at f x 1 o) (count f)
  class-support_none x o n =
      support-sum (rows st) f (triple x 1 o)
      ∙ sum_ext (λ y. among (triple x 1 o) (carried (rows st) (row_at f y))) (explicit_at f x 1 o) (count f) (λ y l. class_bit_none x o y n l)

  -- A property that is no column is given by explicit facts alone.
  property_bit_none : (x q o y : ℕ) → ¬ (q ≡ 1) → ((c : ℕ) → nc ≤ c → c < ns → ¬ (get_or col c 0 ≡ property_node q)) → y < count f → among (triple x q o) (carried (rows st) (row_at f y)) ≡ explicit_at f x q o y
  property_bit_none x q o y k1 n l =
      omega (
        arith,
        bit_property (rows st) (row_at f y) (statements_small st w) (statements_plain st w) (fact-words f v y l).object_small (edges st 4 (count st)) (edges st 5 (count st)) (edges_are st w 4 (inl refl)) (edges_are st w 5 (inr refl))
            x q o 0 k1 (omega arith) ((λ z. absurd (omega arith)), λ z. absurd (walk_end st col 4 (count st) ns _ (property_node q) k.columns z.2 (λ c h e. by_cases (dec_lt c nc) (λ b. omega (arith, k.classes c b)) (λ b. n c (omega arith) h e)))),
        explicit_one f x q o y,
      )

  -- The support of x q o, for a property q other than rdf:type that is no column: whether it is explicit.
  pub property-support_none : (x q o : ℕ) → ¬ (q ≡ 1) → ((c : ℕ) → nc ≤ c → c < ns → ¬ (get_or col c 0 ≡ property_node q)) → support (rows st) (rows f) (triple x q o) ≡ sum_to (explicit_at f x q o) (count f)
  property-support_none x q o k1 n =
      support-sum (rows st) f (triple x q o)
      ∙ sum_ext (λ y. among (triple x q o) (carried (rows st) (row_at f y))) (explicit_at f x q o) (count f) (λ y l. property_bit_none x q o y k1 n l)

-- ---- subjects without rows

-- A row whose subject is neither the subject of a fact nor an object of one that is no literal has no support.
pub absent-support : (S : List Triple) (f : List ℕ) (x p o : ℕ) → ((y : ℕ) → y < count f → ¬ (subject_at f y ≡ x)) → ((y : ℕ) → y < count f → is_literal x ≡ false → ¬ (object_at f y ≡ x))
    → support S (rows f) (triple x p o) ≡ 0
absent-support S f x p o a b =
    support-sum S f (triple x p o)
    ∙ sum_zero (λ y. among (triple x p o) (carried S (row_at f y))) (count f) (λ y l. rw (is_in_no (triple x p o) (carried S (row_at f y)) (λ m. not-part y l ((carried_part S (row_at f y) (triple x p o)).0 m))))
  where
    not-part : (y : ℕ) → y < count f → ¬ Part S (row_at f y) (triple x p o)
    not-part y l (as_property s e q) = a y l (sym (row-subject f y) ∙ sym s)
    not-part y l (as_subject s e q) = a y l (sym (row-subject f y) ∙ sym s)
    not-part y l (as_object s e n q) = b y l (ap is_literal s ∙ n) (sym (row-object f y) ∙ sym s)
