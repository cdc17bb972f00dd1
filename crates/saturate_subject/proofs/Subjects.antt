-- The rows of one subject: the supports that its facts and the counts of the columns give. Assumes nothing.
use mathlib.Core.Path.{◌≡◌, refl, sym, ap, ◌∙◌}
use mathlib.Core.Bool.{Bool, true, false, cond}
use mathlib.Core.List.{List, [], ◌++◌}
use mathlib.Core.Logic.{⊎_elim, by_cases}
use Prim.Native.Nat.{ℕ, zero, suc, ◌+◌, ◌-◌, ◌^◌, ◌≤◌, ◌<◌}
use native.Mathlib.Omega.{arith}
use native.Mathlib.Decide.{ℕ_discrete}
use lib.ListN.{get_or}
use lib.Dec.{eqb}
use borrow.Author.Tests.{eq-eqb, ne_eqb}
use Rattle.spec.specs.declared.Triple.{Triple}
use Rattle.spec.specs.Terms.{is_literal, triple}
use Rattle.spec.specs.inside.Comparison.{Less, by_subject, by_property, by_object, triple_eq}
use Rattle.spec.specs.Saturation.{Kept}
use Rattle.spec.specs.inside.Counts.{Counts, lookup}
use Rattle.saturate_merge.specs.inside.Output.{Output, put_all}
use Rattle.saturate_merge.specs.inside.Between.{between}
use Rattle.saturate_merge.specs.inside.Streams.{objects, often, Rising}
use Rattle.saturate_counted.specs.inside.Counted.{keys_with_counts, counted, count_of, KeysOver, KeysRising, total, Totalled}
use Rattle.saturate_merge.proofs.Output.{put-append}
use Rattle.saturate_merge.proofs.Between.{between_none, between-skip}
use Rattle.saturate_merge.proofs.Whole.{between_join}
use Rattle.saturate_schema.specs.inside.Nodes.{property_node}
use Rattle.saturate_schema.specs.inside.Sums.{sum_to}
use Rattle.saturate_schema.specs.inside.Compiled.{subject_at, property_at, object_at, node_bit, own_bit, explicit_at, subject_adds, property_adds}
use Rattle.saturate_schema.proofs.Sums.{sum_term, sum_bound}
use Rattle.saturate_schema.proofs.Counted.{explicit_other, explicit_own, subject_adds_lem, property_adds-subject, property_adds_own}
use Rattle.saturate_counts.specs.inside.Prepared.{Keys, Prepared, Facts}
use Rattle.saturate_counts.specs.inside.Supported.{class_sum, Supported, Small, Range, CountsOf}
use Rattle.saturate_counts.proofs.NodeBits.{node_absent}
use Rattle.saturate_counts.proofs.Adding.{own_property}
use Rattle.saturate_blocks.specs.inside.Sums.{sum_from}
use Rattle.saturate_blocks.specs.inside.Blocks.{same_at, led_at}
use Rattle.saturate_blocks.specs.inside.Plain.{Split}
use Rattle.saturate_subject.specs.inside.Rows.{PropertyRows, Uncounted}
use Rattle.saturate_blocks.proofs.Ranges.{from_ext, from_zero, from_part, to_part}
use Rattle.saturate_blocks.proofs.Gathering.{rows_rising, led_zero}
use Rattle.saturate_subject.proofs.Plain.{same_property, one_subject, not_before}
use Rattle.saturate_subject.proofs.Properties.{column_of, block-often}

-- ---- sums over the facts of the subject

module _ (f : List ℕ) (n x i t e : ℕ) (fw : Facts f n) (sr : Range (subject_at f) n x i e) (sp : Split f i t e 2) where
  explicit_same : (p o y : ℕ) → subject_at f y ≡ x → explicit_at f x p o y ≡ same_at f p o y
  unfolding same_at
  explicit_same p o y s = explicit_own f x p o y s

  explicit-sum : (p o : ℕ) → sum_to (explicit_at f x p o) n ≡ sum_from (same_at f p o) i (e - i)
  explicit-sum p o =
      to_part (explicit_at f x p o) i e n sr.low sr.high (λ y l. explicit_other f x p o y (sr.before y l)) (λ y l u. explicit_other f x p o y (sr.after y l u))
      ∙ from_ext (explicit_at f x p o) (same_at f p o) i (e - i) (λ y l u. explicit_same p o y (sr.all y l (omega (arith, sr.low))))

  is_type : (y : ℕ) → i ≤ y → y < t → property_at f y ≡ 1
  is_type y l u = omega (arith, sp.before y l u, fw.property_term y (omega (arith, sp.high, sr.high)))

  -- Of rdf:type they are the objects of the first facts,
  explicit_types : (o : ℕ) → sum_to (explicit_at f x 1 o) n ≡ often o (objects f i (t - i))
  explicit_types o =
      explicit-sum 1 o
      ∙ from_part (same_at f 1 o) i i t e (omega arith) sp.low sp.high (λ y l u. absurd (omega arith)) (λ y l u. same_property f n x fw 1 o y (λ q. omega (arith, sp.after y l u)))
      ∙ block-often f 1 o i (t - i) (λ y l u. is_type y l (omega (arith, sp.low)))

  -- of another property they stand among the others.
  explicit-others : (p o : ℕ) → 2 ≤ p → sum_to (explicit_at f x p o) n ≡ sum_from (same_at f p o) t (e - t)
  explicit-others p o l =
      explicit-sum p o
      ∙ from_part (same_at f p o) i t e e sp.low sp.high (omega arith) (λ y k u. same_property f n x fw p o y (λ q. omega (arith, is_type y k u))) (λ y k u. absurd (omega arith))

  pub types_rising : Rising (objects f i (t - i))
  types_rising = rows_rising f i e i t 1 (one_subject f n x i e fw sr.high sr.all) (omega arith) sp.high is_type

  -- ---- rows of rdf:type

  module _ (st : List ℕ) (m : ℕ) (d r keys : List ℕ) (nc ns : ℕ) (counts : List ℕ) (kw : Keys keys nc ns) (cw : CountsOf st m d r nc ns f n x counts) (plain : is_literal x ≡ false) where
    keys-over : (a c k : ℕ) → c + k ≤ nc → (0 < k → a < get_or keys c 0) → KeysOver a (keys_with_counts keys counts c k)
    unfolding keys_with_counts
    keys-over a c zero l h = tt
    keys-over a c (suc k) l h = (h (omega arith), kw.small c (omega (arith, kw.classes)), keys-over (get_or keys c 0) (c + 1) k (omega arith) (λ p. kw.class_keys c (c + 1) (omega arith) (omega arith)))

    pub keys-rising : KeysRising (counted keys counts 0 nc)
    unfolding keys_with_counts
    keys-rising = let q : nc - 0 ≡ nc = omega arith in rw q (go nc (omega arith))
      where
        go : (k : ℕ) → k ≤ nc → KeysRising (keys_with_counts keys counts 0 k)
        go zero l = tt
        go (suc k) l = (kw.small 0 (omega (arith, kw.classes)), keys-over (get_or keys 0 0) 1 k (omega arith) (λ p. kw.class_keys 0 1 (omega arith) (omega arith)))

    count_none : (o a k : ℕ) → ((c : ℕ) → a ≤ c → c < a + k → ¬ (get_or keys c 0 ≡ o)) → count_of o (keys_with_counts keys counts a k) ≡ 0
    unfolding keys_with_counts count_of
    count_none o a zero h = refl
    count_none o a (suc k) h = rw (ne_eqb (get_or keys a 0) o (h a (omega arith) (omega arith))) (omega (arith, count_none o (a + 1) k (λ c l u. h c (omega arith) (omega arith))))

    count-key : (c a k : ℕ) → a ≤ c → c < a + k → a + k ≤ nc → count_of (get_or keys c 0) (keys_with_counts keys counts a k) ≡ get_or counts c 0
    unfolding keys_with_counts count_of
    count-key c a zero l u le = absurd (omega arith)
    count-key c a (suc k) l u le =
        by_cases (ℕ_discrete a c)
        (λ q. rw (eq-eqb (get_or keys a 0) (get_or keys c 0) (ap (λ (v : ℕ). get_or keys v 0) q)) (omega (arith, ap (λ (v : ℕ). get_or counts v 0) q, count_none (get_or keys c 0) (a + 1) k (λ v g w z. omega (arith, kw.class_keys c v (omega arith) (omega arith))))))
        (λ q. rw (ne_eqb (get_or keys a 0) (get_or keys c 0) (λ z. omega (arith, kw.class_keys a c (omega arith) (omega arith)))) (omega (arith, count-key c (a + 1) k (omega arith) (omega arith) (omega arith))))

    -- The total is the support of a key,
    total-key : (c : ℕ) → c < nc → total (objects f i (t - i)) (counted keys counts 0 nc) (get_or keys c 0) ≡ class_sum st m d r nc f n x (get_or keys c 0) c
    unfolding total
    total-key c l = omega (arith, explicit_types (get_or keys c 0), cw.class c l, count-key c 0 (nc - 0) (omega arith) (omega arith) (omega arith))

    -- and else whether the row is a fact.
    total-other : (o : ℕ) → ((c : ℕ) → 0 ≤ c → c < nc → ¬ (get_or keys c 0 ≡ o)) → total (objects f i (t - i)) (counted keys counts 0 nc) o ≡ sum_to (explicit_at f x 1 o) n
    unfolding total
    total-other o h = omega (arith, explicit_types o, count_none o 0 (nc - 0) (λ c l u. h c l (omega arith)))

    pub types-totalled : (K : Kept) → Supported K st m d r keys nc ns f n → Totalled K x 1 (objects f i (t - i)) (counted keys counts 0 nc)
    types-totalled K s o =
        ⊎_elim
        (λ c. rw (← c.is) (s.class x c.place c.high plain ∙ sym (total-key c.place c.high)))
        (λ h. s.other_class x o (λ c l. h c (omega arith) l) ∙ sym (total-other o h))
        (column_of keys 0 nc o)

    explicit-bit : (p o y : ℕ) → explicit_at f x p o y ≤ 1
    unfolding explicit_at
    explicit-bit p o y = go (eqb (subject_at f y) x) (eqb (property_at f y) p) (eqb (object_at f y) o)
      where
        go : (a b c : Bool) → cond a (cond b (cond c 1 0) 0) 0 ≤ 1
        go true true true = omega arith
        go true true false = omega arith
        go true false c = omega arith
        go false b c = omega arith

    pub types-small : Small st m d r keys nc f n → (o : ℕ) → total (objects f i (t - i)) (counted keys counts 0 nc) o < 2 ^ 16
    types-small s o =
        ⊎_elim
        (λ c. rw (← c.is) (omega (arith, total-key c.place c.high, s x c.place c.high plain)))
        (λ h. omega (arith, total-other o h, sum_bound (explicit_at f x 1 o) n (λ y l. explicit-bit 1 o y), fw.few))
        (column_of keys 0 nc o)

    -- ---- rows of other properties

    module _ (pw : Prepared st m keys nc ns d r) where
      pub uncounted : Uncounted st m d nc ns counts f t e
      uncounted c y l u z k v =
          let s : sum_to (subject_adds st m nc d r f x c) n ≡ 0 = sym (cw.property c l u) ∙ z in
          let i-y : i ≤ y = omega (arith, sp.low) in
          let a : subject_adds st m nc d r f x c y ≡ own_bit st m nc d r f x c y = subject_adds_lem st m nc d r f x c y (sr.all y i-y v) in
          let b : own_bit st m nc d r f x c y ≡ node_bit st m d (property_node (property_at f y)) c = own_property st m nc ns d r f x y pw.domains pw.ranges c l (λ q. omega (arith, sp.after y k v)) in
          omega (arith, sum_term (subject_adds st m nc d r f x c) y n (omega (arith, sr.high)))

      led-is : (o c y : ℕ) → subject_at f y ≡ x → property_adds st m d f x o c y ≡ led_at st m d f o c y
      unfolding led_at
      led-is o c y s = property_adds_own st m d f x o c y s

      led-sum : (o c : ℕ) → sum_to (property_adds st m d f x o c) n ≡ sum_from (led_at st m d f o c) t (e - t)
      led-sum o c =
          to_part (property_adds st m d f x o c) i e n sr.low sr.high (λ y l. property_adds-subject st m d f x o c y (sr.before y l)) (λ y l u. property_adds-subject st m d f x o c y (sr.after y l u))
          ∙ from_ext (property_adds st m d f x o c) (led_at st m d f o c) i (e - i) (λ y l u. led-is o c y (sr.all y l (omega (arith, sr.low))))
          ∙ from_part (led_at st m d f o c) i t e e sp.low sp.high (omega arith) (λ y l u. led_zero st m d f o c y (rw (is_type y l u) (node_absent st m d (property_node 1) c pw.no_type))) (λ y l u. absurd (omega arith))

      pub property-rows-of : (K : Kept) → Supported K st m d r keys nc ns f n → PropertyRows K st m d keys nc ns f x t e
      property-rows-of K s =
          record {
            column = λ c o l u. omega (arith, s.property x o c l u, explicit-others (get_or keys c 0) o (kw.not_type c l u), led-sum o c);
            other = λ q o l h. s.other_property x q o (λ z. omega arith) h ∙ explicit-others q o l;
          }

      -- ---- all rows of the subject

      none_before : (K : Kept) → Supported K st m d r keys nc ns f n → (o : ℕ) → lookup K (triple x 0 o) ≡ 0
      none_before K s o =
          s.other_property x 0 o (λ z. omega arith) (λ c l u z. omega (arith, kw.not_type c l u))
          ∙ explicit-sum 0 o
          ∙ from_zero (same_at f 0 o) i (e - i) (λ y l u. same_property f n x fw 0 o y (λ z. omega (arith, fw.property_term y (omega (arith, sr.low, sr.high)))))

      pub subject-rows-of : (room : ℕ) (out₀ out₁ out₂ : Output) → ((K : Kept) → Counts K → Totalled K x 1 (objects f i (t - i)) (counted keys counts 0 nc) → out₁ ≡ put_all room (between (triple x 1 0) (triple x 2 0) K) out₀)
          → ((K : Kept) → Counts K → PropertyRows K st m d keys nc ns f x t e → out₂ ≡ put_all room (between (triple x 2 0) (triple (x + 1) 0 0) K) out₁)
          → (K : Kept) → Counts K → Supported K st m d r keys nc ns f n → out₂ ≡ put_all room (between (triple x 0 0) (triple (x + 1) 0 0) K) out₀
      subject-rows-of room out₀ out₁ out₂ e₁ e₂ K a s =
          let first : between (triple x 0 0) (triple x 1 0) K ≡ [] =
          between-skip (triple x 0 0) (triple x 0 0) (triple x 1 0) K a (not_before x 0 1 0 (omega arith)) (λ u l k. zero_row u l k) ∙ between_none (triple x 0 0) K in
          let j₁ : between (triple x 0 0) (triple x 2 0) K ≡ between (triple x 0 0) (triple x 1 0) K ++ between (triple x 1 0) (triple x 2 0) K =
          between_join (triple x 0 0) (triple x 1 0) (triple x 2 0) K a (not_before x 0 1 0 (omega arith)) (not_before x 1 2 0 (omega arith)) in
          let j₂ : between (triple x 0 0) (triple (x + 1) 0 0) K ≡ between (triple x 0 0) (triple x 2 0) K ++ between (triple x 2 0) (triple (x + 1) 0 0) K =
          between_join (triple x 0 0) (triple x 2 0) (triple (x + 1) 0 0) K a (not_before x 0 2 0 (omega arith)) over in
          let j₃ : between (triple x 0 0) (triple x 2 0) K ≡ between (triple x 1 0) (triple x 2 0) K = j₁ ∙ ap (λ (k : Kept). k ++ between (triple x 1 0) (triple x 2 0) K) first in
          e₂ K a (property-rows-of K s)
          ∙ ap (put_all room (between (triple x 2 0) (triple (x + 1) 0 0) K)) (e₁ K a (types-totalled K s) ∙ ap (λ (k : Kept). put_all room k out₀) (sym j₃))
          ∙ sym (put-append room (between (triple x 0 0) (triple x 2 0) K) (between (triple x 2 0) (triple (x + 1) 0 0) K) out₀)
          ∙ ap (λ (k : Kept). put_all room k out₀) (sym j₂)
        where
          over : ¬ Less (triple (x + 1) 0 0) (triple x 2 0)
          over (by_subject q) = omega arith
          over (by_property q k) = omega arith
          over (by_object q j k) = omega arith

          zero_row : (u : Triple) → ¬ Less u (triple x 0 0) → Less u (triple x 1 0) → lookup K u ≡ 0
          zero_row u l (by_subject k) = absurd (l (by_subject k))
          zero_row u l (by_object q c k) = absurd (omega arith)
          zero_row u l (by_property q k) = ap (lookup K) (triple_eq u (triple x 0 u.object) q (omega arith) refl) ∙ none_before K s u.object
